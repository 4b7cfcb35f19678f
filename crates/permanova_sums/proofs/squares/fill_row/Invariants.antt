-- `permanova_sums::squares::fill_row` meets its contract. By any rule that f keeps to, the first b entries are written.
use Rattle.lists.proofs.Base.{◌≡◌, ℕ, ◌<◌, length, Float}
use Rattle.lists.proofs.Writes.{Writing}
use Rattle.permanova_sums.proofs.squares.fill_row.Given as goal

abbrev pub invariant-loop-b : goal.invariant-loop-b
invariant-loop-b g l = (h : ℕ → Float) → ((b : ℕ) (x : Float) → b < length l.initial.row → goal.F-post g l.f l.a b x → x ≡ h b) → Writing h l.initial.row l.row l.b
