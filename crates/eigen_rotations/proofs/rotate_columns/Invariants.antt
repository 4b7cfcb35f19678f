-- `eigen_rotations::rotate_columns` meets its contract. After i turns the first i rows are done; row i is lent as its own part.
use Rattle.lists.proofs.Base.{◌≡◌}
use Rattle.lists.specs.{Loops.in_turn, Rows.on_row}
use Rattle.eigen_rotations.specs.Rotation.{turn_entries}
use Rattle.eigen_rotations.proofs.rotate_columns.Given as goal

abbrev pub invariant-loop-i : goal.invariant-loop-i
invariant-loop-i l = l.m ≡ in_turn (on_row l.n (turn_entries l.r.p l.r.q l.r.c l.r.s)) l.i l.initial.m
