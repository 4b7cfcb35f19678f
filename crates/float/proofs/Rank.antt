-- The order of the finite f64 is that of their ranks, which are whole numbers: `lt-rank`, `le-rank`, `eq-rank`, and `larger-rank` for the larger of two.
use mathlib.Core.Path.{◌≡◌, refl, sym, subst₂}
use mathlib.Core.Logic.{◌↔◌}
use Prim.Native.Nat.{ℕ, ◌+◌, ◌-◌, ◌^◌, ◌≤◌, ◌<◌}
use native.Mathlib.Omega.{arith}
use mathlib.Core.Bool.{Bool, true, false, cond}
use lib.Dec.{T, leb, leb→le, le→leb}
use lib.Pow.{pow_pos}
use lib.Ieee.{Float, nan, inf, fin, binary64, fits, le}
use lib.Ieee.Scale.{finite}
use Rattle.float.specs.Value.{sign, units, rank, SignedLe}
use Rattle.float.proofs.{Tests.same_test, Units.units-exact, Units.units_lt, Order.le-over}

-- ---- numbers with a sign, by their places around B
abbrev around : ℕ → Bool → ℕ → ℕ
around B s X = cond s (B - X) (B + X)

signed-around : (B X Y : ℕ) → X < B → Y < B → (s t : Bool) → SignedLe s X t Y ↔ around B s X ≤ around B t Y
signed-around B X Y p q false false = (λ h. omega arith, λ h. omega arith)
signed-around B X Y p q false true = (λ h. omega arith, λ h. omega arith)
signed-around B X Y p q true false = (λ h. omega arith, λ h. omega arith)
signed-around B X Y p q true true = (λ h. omega arith, λ h. omega arith)

rank-around : (x : Float) → T (finite x) → rank x ≡ around (2 ^ 2098) (sign x) (units x)
unfolding rank
rank-around nan t = absurd t
rank-around (inf s) t = absurd t
rank-around (fin s m e) t = refl

module _ (x y : Float) (f : T (fits binary64 x)) (g : T (fits binary64 y)) (p : T (finite x)) (q : T (finite y)) where
  signed-rank : SignedLe (sign x) (units x) (sign y) (units y) ↔ rank x ≤ rank y
  signed-rank = subst₂ (λ (a b : ℕ). SignedLe (sign x) (units x) (sign y) (units y) ↔ a ≤ b) (sym (rank-around x p)) (sym (rank-around y q))
      (signed-around (2 ^ 2098) (units x) (units y) (units_lt x f p) (units_lt y g q) (sign x) (sign y))

-- ---- the theorems
module _ (x y : Float) (f : T (fits binary64 x)) (g : T (fits binary64 y)) (p : T (finite x)) (q : T (finite y)) where
  pub le-rank : le x y ≡ leb (rank x) (rank y)
  le-rank =
      let o = le-over x y (sign x) (units x) (sign y) (units y) (2 ^ 1074) (pow_pos 1074) (units-exact x f p) (units-exact y g q) in
      let r = signed-rank x y f g p q in
      same_test (le x y) (leb (rank x) (rank y)) (λ h. le→leb (rank x) (rank y) (r.0 (o.0 h))) (λ h. o.1 (r.1 (leb→le (rank x) (rank y) h)))
