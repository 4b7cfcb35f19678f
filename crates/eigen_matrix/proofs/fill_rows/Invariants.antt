-- `eigen_matrix::fill_rows` meets its contract. By any rule that f keeps to, the first i rows are filled.
use Rattle.lists.proofs.Base.{◌≡◌, List, ℕ, ◌<◌, length, Float}
use Rattle.lists.proofs.Writes.{Filling}
use Rattle.eigen_matrix.proofs.fill_rows.Given as goal

abbrev pub invariant-loop-i : goal.invariant-loop-i
invariant-loop-i g l =
    (h : ℕ → List Float) → ((i : ℕ) → length (h i) ≡ l.w)
    → ((i : ℕ) (row filled : _) → i < l.n → length row.now ≡ l.w → goal.F-post g l.f i row tt filled → filled.now ≡ h i) → Filling l.n l.w h l.initial.m l.m l.i
