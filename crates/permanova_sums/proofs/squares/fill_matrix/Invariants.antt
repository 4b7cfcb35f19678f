-- `permanova_sums::squares::fill_matrix` meets its contract. By any rule that f keeps to, the first a rows are filled.
use Rattle.lists.proofs.Base.{◌≡◌, ℕ, ◌<◌, Float}
use Rattle.lists.specs.Ranges.{table}
use Rattle.lists.proofs.Writes.{Filling}
use Rattle.permanova_sums.proofs.squares.fill_matrix.Given as goal

abbrev pub invariant-loop-a : goal.invariant-loop-a
invariant-loop-a g l = (h : ℕ → ℕ → Float) → ((a b : ℕ) (x : Float) → a < l.m → b < l.m → goal.F-post g l.f a b x → x ≡ h a b)
    → Filling l.m l.m (λ i. table l.m (h i)) l.initial.t l.t l.a
