-- `ordination_coordinates::scale_of` meets its contract. Two calls.
use Rattle.lists.proofs.Base.{ap, ◌∙◌}
use Rattle.square_root.specs.Root.{root}
use Rattle.ordination_coordinates.specs.Finish.{scale_of}
use Rattle.ordination_coordinates.proofs.scale_of.Goals as goal

pub returns : goal.returns
unfolding scale_of
returns c = c.sqrt.ensures ∙ ap root c.max.ensures
