-- What lent slices hold afterwards (document 01, the table's last column and below it). Definitions only.
use Rattle.std.specs.Prelude.{ℕ, Bool, not, ◌||◌, cond, List, eqb, replicate}
use Rattle.lists.specs.Writes.{over, cleared}
use Rattle.outcome.specs.Outcome.{Outcome, answered, refused}

-- 10 and 11 zero an output's first part and all work, every other refusal leaves every slice untouched
abbrev pub untouched : ℕ → Bool
untouched k = not (eqb k 10 || eqb k 11)

-- An output: its first part, of k entries, is the part that the answer gives, or zeros, or as it was. The rest stays.
unfoldable pub output : {A B : Type 0} → B → (A → List B) → ℕ → Outcome A → List B → List B
output zero part k (answered a) before = over (part a) before
output zero part k (refused r) before = cond (untouched r) before (over (replicate k zero) before)

-- A work slice: all zero, or as it was.
unfoldable pub work : {A B : Type 0} → B → Outcome A → List B → List B
work zero (answered a) before = cleared zero before
work zero (refused r) before = cond (untouched r) before (cleared zero before)
