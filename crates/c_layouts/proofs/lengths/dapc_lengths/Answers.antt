-- `c_layouts::lengths::dapc_lengths` meets its contract. Up to 256 and 16 nothing wraps.
use Rattle.lists.proofs.Base.{refl, lt-ltb, le-ltb}
use Rattle.c_layouts.proofs.AskedLengths.{past, within, many, other}
use Rattle.c_layouts.proofs.lengths.dapc_lengths.Goals as goal
use Rattle.c_layouts.proofs.lengths.dapc_lengths.Goals.{then-n-gt-MOST_SAMPLES-via-then-n-gt-MOST_SAMPLES, then-n-gt-MOST_SAMPLES-via-else-n-gt-MOST_SAMPLES+then-columns-gt-MOST_COLUMNS}

pub returns-then-n-gt-MOST_SAMPLES : goal.returns-then-n-gt-MOST_SAMPLES
returns-then-n-gt-MOST_SAMPLES c =
    let a = c.args in
    elim c.then-n-gt-MOST_SAMPLES.branch [
      | then-n-gt-MOST_SAMPLES-via-then-n-gt-MOST_SAMPLES w ↦ past _ (many a.n _ w.if-n-gt-MOST_SAMPLES.true)
      | then-n-gt-MOST_SAMPLES-via-else-n-gt-MOST_SAMPLES+then-columns-gt-MOST_COLUMNS w ↦
          past _ (other a.n _ w.if-n-gt-MOST_SAMPLES.false (lt-ltb 16 a.columns w.if-columns-gt-MOST_COLUMNS.true))
    ]

pub returns : goal.returns
returns c = let a = c.args in within _ (other a.n _ c.if-n-gt-MOST_SAMPLES.false (le-ltb 16 a.columns c.if-columns-gt-MOST_COLUMNS.false)) refl
