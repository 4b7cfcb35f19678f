-- What a loop does: a step for each number, each on what the last one left. Definitions only.
use Rattle.std.specs.Prelude.{ℕ, zero, suc, ◌+◌, ◌-◌}

-- `for i in 0..k`
unfoldable pub in_turn : {A : Type 0} → (ℕ → A → A) → ℕ → A → A
in_turn step zero a = a
in_turn step (suc k) a = step k (in_turn step k a)

-- `for i in lo..hi`
unfoldable pub from_to : {A : Type 0} → (ℕ → A → A) → ℕ → ℕ → A → A
from_to step lo hi a = in_turn (λ j. step (lo + j)) (hi - lo) a

-- `for i in (lo..hi).rev()`
unfoldable pub down_to : {A : Type 0} → (ℕ → A → A) → ℕ → ℕ → A → A
down_to step lo hi a = in_turn (λ j. step (hi - (j + 1))) (hi - lo) a
