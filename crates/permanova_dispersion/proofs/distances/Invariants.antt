-- `permanova_dispersion::distances` meets its contract. After i turns the first i entries are distances.
use Rattle.lists.proofs.Base.{get_or, nan}
use Rattle.lists.proofs.{Writes.Writing}
use Rattle.permanova_dispersion.specs.Dispersion.{distance_of}
use Rattle.permanova_dispersion.proofs.distances.Given as goal

abbrev pub invariant-loop-x : goal.invariant-loop-x
invariant-loop-x l = Writing (λ k. distance_of (get_or l.initial.x-items k nan)) l.initial.x-items l.x-items l.x-index
