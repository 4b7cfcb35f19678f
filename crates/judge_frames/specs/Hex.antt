-- Section 7: hexadecimal digits. Definitions only.
use Rattle.std.specs.Prelude.{ℕ, ◌+◌, ◌-◌, ◌*◌, ◌&&◌, cond, List, [], ◌∷◌, leb, ltb, length, take, drop, Option, Some, None}

-- the value of a digit, `0` to `9`, `A` to `F` or `a` to `f`; none of any other byte
abbrev pub nibble : ℕ → Option ℕ
nibble c =
    cond (ltb c 48) None (cond (ltb c 58) (Some (c - 48))
    (cond (ltb c 65) None (cond (ltb c 71) (Some (c - 55))
    (cond (ltb c 97) None (cond (ltb c 103) (Some (c - 87)) None)))))

-- the number that v's digits and then these bytes spell, if each is a digit
unfoldable pub spelled : ℕ → List ℕ → Option ℕ
spelled v [] = Some v
spelled v (c ∷ cs) = elim (nibble c) as (λ d. Option ℕ) [ Some d ↦ spelled (v * 16 + d) cs | None ↦ None ]

-- the number in the k digits from place at on: at most 16 of them, all within the line
unfoldable pub field_at : List ℕ → ℕ → ℕ → Option ℕ
field_at line at k = cond (leb k 16 && leb (at + k) (length line)) (spelled 0 (take k (drop at line))) None
