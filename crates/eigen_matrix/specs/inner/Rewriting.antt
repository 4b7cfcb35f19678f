-- What `rewrite` is asked and what it leaves, by what its closure may be called at and what it gives. Definitions only.
use Rattle.std.specs.Prelude.{◌≡◌, ℕ, ◌<◌, List, length, get_or, Float}
use Rattle.std.specs.Float.{nan}
use Rattle.lists.specs.Ranges.{table}

-- it may be called at each place below n
abbrev pub Rewriting : (ℕ → Float → Type 0) → ℕ → Type 0
Rewriting may n = (c : ℕ) (r : Float) → c < n → may c r

-- each entry is what it gives of the place and the old entry, by whatever rule it gives that
abbrev pub Rewrites : (ℕ → Float → Float → Type 0) → List Float → List Float → Type 0
Rewrites gives old new = (h : ℕ → Float → Float) → ((c : ℕ) (r s : Float) → c < length old → gives c r s → s ≡ h c r)
    → new ≡ table (length old) (λ c. h c (get_or old c nan))
