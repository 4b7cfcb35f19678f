-- Section 8: warnings as a number with bits; here bits 0 to 4. Definitions only.
use Rattle.std.specs.Prelude.{ℕ, Bool, cond, [], ◌∷◌}
use Rattle.lists.specs.Numbers.{sumℕ}

abbrev pub bit : ℕ → Bool → ℕ
bit b on = cond on b 0

-- bits 0 to 4
abbrev pub warning_bits : Bool → Bool → Bool → Bool → Bool → ℕ
warning_bits left uninformed few small negative = sumℕ (bit 1 left ∷ bit 2 uninformed ∷ bit 4 few ∷ bit 8 small ∷ bit 16 negative ∷ [])
