-- `eigen_matrix::copy_row` meets its contract. The part that is copied is row i.
use Rattle.lists.proofs.Base.{◌∙◌}
use Rattle.lists.proofs.Rows.{part-row}
use Rattle.eigen_matrix.proofs.copy_row.Goals as goal

pub returns : goal.returns
returns c = c.copy.ensures ∙ part-row c.args.n c.args.i c.args.m.now
