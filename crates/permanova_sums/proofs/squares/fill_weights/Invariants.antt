-- `permanova_sums::squares::fill_weights` meets its contract. After a turns the first a entries are weights.
use Rattle.lists.proofs.Base.{get_or}
use Rattle.std.specs.Prelude.{is_some}
use Rattle.lists.proofs.{Writes.Writing}
use Rattle.lot.specs.Given.{held_by}
use Rattle.permanova_sums.specs.Squares.{weight_at}
use Rattle.permanova_sums.proofs.squares.fill_weights.Given as goal

abbrev pub invariant-loop-a : goal.invariant-loop-a
invariant-loop-a l = Writing (λ k. weight_at (is_some l.weights) (held_by l.weights) (get_or l.ks k 0)) l.initial.w l.w l.a
