-- Section 6: the hits of an assignment, and of all three statistics of a way. An assignment is how many kept samples were found to be in their own group, and none
-- where `dapc` refuses. Definitions only.
use Rattle.std.specs.Prelude.{Bool, true, false, ℕ, leb, Option, Some, None}

-- Hits of an assignment: the ways with as many right or more. A way that has none is no hit, and has no hits.
unfoldable pub as_right : Option ℕ → Option ℕ → Bool
as_right None None = false
as_right None (Some r') = false
as_right (Some r) None = false
as_right (Some r) (Some r') = leb r r'

-- whether `dapc` does not refuse
unfoldable pub is_given : Option ℕ → Bool
is_given (Some r) = true
is_given None = false

-- how many are right, 0 where none is given
abbrev pub right_of : Option ℕ → ℕ
right_of (Some r) = r
right_of None = 0
