-- `eigen_rotations::rotate_pair` meets its contract. After k turns the first k entries of both rows are turned, and the rest are as they were.
use Rattle.lists.proofs.Base.{get_or, nan}
use Rattle.lists.proofs.{Writes.Writing}
use Rattle.eigen_rotations.specs.Rotation.{turn_first, turn_second}
use Rattle.eigen_rotations.proofs.rotate_pair.Given as goal

abbrev pub invariant-loop-k : goal.invariant-loop-k
invariant-loop-k l = Writing (λ i. turn_first l.r.c l.r.s (get_or l.initial.x i nan) (get_or l.initial.y i nan)) l.initial.x l.x l.k
    × Writing (λ i. turn_second l.r.c l.r.s (get_or l.initial.x i nan) (get_or l.initial.y i nan)) l.initial.y l.y l.k
