-- `ordination_gram::columns::fill_row` meets its contract: after the turn at j the entries from i to j are written.
use Rattle.lists.proofs.Base.{refl, ◌∙◌, arith, length, length-set}
use Rattle.lists.proofs.Rows.{row-end}
use Rattle.ordination_gram.specs.inner.Columns.{entry_at}
use Rattle.ordination_gram.proofs.MirroredRows.{upper-none, upper-next, upper-all}
use Rattle.ordination_gram.proofs.columns.fill_row.Goals as goal

pub loop-j-init : goal.loop-j-init
loop-j-init c = (omega arith, omega arith, refl, upper-none (entry_at c.args.w c.args.words.now c.args.sums.now c.args.t c.args.i) c.args.row.now c.args.i (omega arith))

pub entry-requires : goal.entry-requires
entry-requires c =
    let a = c.args in
    let one = row-end a.w a.i (length a.row.now) (omega arith) in
    let two = row-end a.w c.loop-j.j (length a.row.now) (omega arith) in
    (omega arith, omega arith, omega arith, omega arith, omega arith)

pub loop-j-preserved : goal.loop-j-preserved
loop-j-preserved c =
    let here = c.loop-j in
    let a = c.args in (
      omega arith,
      omega arith,
      length-set here.row _ _ ∙ here.invariant.2,
      upper-next (entry_at a.w a.words.now a.sums.now a.t a.i) a.row.now a.i (omega arith) here.j (omega arith)
          (omega arith) here.invariant.3 c.entry.ensures,
    )

pub shape_of-row : goal.shape_of-row
shape_of-row c = c.loop-j.invariant.2

pub returns : goal.returns
returns c =
    let a = c.args in
    upper-all (entry_at a.w a.words.now a.sums.now a.t a.i) a.row.now a.i (omega arith) c.loop-j.j (omega arith) c.loop-j.invariant.3
