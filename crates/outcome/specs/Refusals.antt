-- The table of refusals (document 01, "What a turned-away lot returns"): its lines, and which line wins. Definitions only.
-- All lengths are judged on naturals, so nothing wraps: an n near 2 ^ 64 whose slices do not fit it is 1.
use Rattle.std.specs.Prelude.{ℕ, Bool, false, not, ◌||◌, cond, List, [], ◌∷◌, eqb, ltb, length}
use Rattle.outcome.specs.Outcome.{Told, passed, refused}

-- a line: the number that is returned when its condition holds
pub record Line : Type 0 where
  pub returned : ℕ
  pub holds : Bool

infix 20 ◌when◌
abbrev pub ◌when◌ : ℕ → Bool → Line
k when b = record { returned = k; holds = b }

-- The lines of an operation stand in the order in which they are tested, which need not be that of their numbers, and the first that holds wins.
unfoldable pub first : List Line → Told
first [] = passed
first (line ∷ lines) = let rest = first lines in cond line.holds (refused line.returned) rest

-- ---- conditions of line 1

-- an argument that does not have n entries
abbrev pub unfit : {A : Type 0} → List A → ℕ → Bool
unfit l n = not (eqb (length l) n)

-- of slices of these lengths, of which those are asked one by one, some is shorter than asked
unfoldable pub short : List ℕ → List ℕ → Bool
short [] asked = false
short (has ∷ lent) [] = false
short (has ∷ lent) (least ∷ asked) = ltb has least || short lent asked
