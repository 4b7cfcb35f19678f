-- `eigen_matrix::entrywise::rewrite` meets its contract. By any rule that f keeps to, the first c entries are written, and the others stand as they were.
use Rattle.lists.proofs.Base.{◌≡◌, ℕ, ◌<◌, length, get_or, Float, nan}
use Rattle.lists.proofs.Writes.{Writing}
use Rattle.eigen_matrix.proofs.entrywise.rewrite.Given as goal

abbrev pub invariant-loop-c : goal.invariant-loop-c
invariant-loop-c g l =
    (h : ℕ → Float → Float) → ((c : ℕ) (r s : Float) → c < length l.initial.row → goal.F-post g l.f c r s → s ≡ h c r)
    → Writing (λ c. h c (get_or l.initial.row c nan)) l.initial.row l.row l.c
