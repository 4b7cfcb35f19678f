-- Section 7: the lines of a text. Definitions only.
use Rattle.std.specs.Prelude.{ℕ, Bool, true, false, List, [], ◌∷◌, eqb}
use Rattle.limits.specs.Limits.{line_feed}

-- a line feed
abbrev pub feed : ℕ → Bool
feed c = eqb c line_feed

-- the lines of a text, without their line feeds; only the last may lack its own
unfoldable pub text_lines : List ℕ → List (List ℕ)
text_lines [] = []
text_lines (c ∷ rest) = elim (feed c) as (λ b. List (List ℕ)) [
  | true ↦ [] ∷ text_lines rest
  | false ↦ elim (text_lines rest) as (λ ls. List (List ℕ)) [ [] ↦ (c ∷ []) ∷ [] | l ∷ ls ↦ (c ∷ l) ∷ ls ]
]
