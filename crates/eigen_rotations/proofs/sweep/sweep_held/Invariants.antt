-- `eigen_rotations::sweep::sweep_held` meets its contract. At q the rotations with p + 1 up to q - 1 are made.
use Rattle.lists.proofs.Base.{◌≡◌, ◌+◌}
use Rattle.lists.specs.Loops.{from_to}
use Rattle.eigen_rotations.specs.Rotation.{rotate}
use Rattle.eigen_rotations.specs.inner.Rotation.{held}
use Rattle.eigen_rotations.proofs.sweep.sweep_held.Given as goal

abbrev pub invariant-loop-q : goal.invariant-loop-q
invariant-loop-q l = held l.n l.p l.m l.v l.x l.y ≡ from_to (rotate l.n l.p) (l.p + 1) l.q (held l.n l.p l.initial.m l.initial.v l.initial.x l.initial.y)
