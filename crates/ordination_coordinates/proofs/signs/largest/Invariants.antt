-- `ordination_coordinates::signs::largest` meets its contract. After i turns m is the largest of the first i.
use Rattle.lists.proofs.Base.{◌≡◌, get_or, nan}
use Rattle.float.specs.Floats.{zero⁺}
use Rattle.lists.specs.Loops.{in_turn}
use Rattle.ordination_coordinates.specs.Signs.{stronger}
use Rattle.ordination_coordinates.proofs.signs.largest.Given as goal

abbrev pub invariant-loop-x : goal.invariant-loop-x
invariant-loop-x l = l.m ≡ in_turn (λ k x. stronger x (get_or l.v k nan)) l.x-index zero⁺
