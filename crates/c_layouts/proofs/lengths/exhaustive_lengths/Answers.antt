-- `c_layouts::lengths::exhaustive_lengths` meets its contract. By n times n, of an n within its limit.
use Rattle.lists.proofs.Base.{lt-ltb, le-ltb}
use Rattle.outcome.proofs.Table.{passed-on}
use Rattle.c_layouts.proofs.AskedLengths.{beyond, within, exhaustive-asked}
use Rattle.c_layouts.proofs.lengths.exhaustive_lengths.Goals as goal

pub returns-in_err-q : goal.returns-in_err-q
returns-in_err-q c = beyond _ (passed-on _ c.from_residual.ensures.1) c.in_err-q.ensures.1 (lt-ltb 256 c.args.n c.in_err-q.ensures.0)

pub returns : goal.returns
returns c = within _ (le-ltb 256 c.args.n c.in_ok-q.ensures.0) (exhaustive-asked c.args.n c.in_ok-q.ensures.1)
