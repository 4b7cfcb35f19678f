-- `lot_design::left_out` meets its contract. The samples that are kept, those without a label, and those with one of their own are all.
use Rattle.lists.proofs.Base.{arith}
use Rattle.lot_design.proofs.LabelsLeftOut.{apart-few, left-out-few}
use Rattle.lot_design.proofs.left_out.Goals as goal

pub overflow_add-result : goal.overflow_add-result
overflow_add-result c = omega (arith, apart-few c.args.labels.now c.requires.1 c.how_many-unlabelled.ensures, c.requires.0)

pub returns : goal.returns
returns c = left-out-few _ c.requires.1 c.how_many-unlabelled.ensures
