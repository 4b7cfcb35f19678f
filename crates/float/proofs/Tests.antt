-- Tests as facts: a test that came out true or false, tests joined by `||`, and two tests that are one.
use mathlib.Core.Path.{◌≡◌, refl, sym, subst}
use mathlib.Core.Logic.{◌⊎◌, inl, inr}
use mathlib.Core.Bool.{Bool, true, false, not, ◌||◌}
use Prim.Native.Nat.{ℕ, ◌≤◌, ◌<◌}
use lib.Dec.{T, leb, leb→le, nleb→lt}

pub passes : {b : Bool} → b ≡ true → T b
passes e = subst T (sym e) tt

pub fails : {b : Bool} → b ≡ false → T b → ⊥
fails e t = subst T e t

pub or_l : (p q : Bool) → T p → T (p || q)
or_l true q t = tt
or_l false q t = absurd t

pub or_r : (p q : Bool) → T q → T (p || q)
or_r true q t = tt
or_r false q t = t

pub or_split : (p q : Bool) → T (p || q) → T p ⊎ T q
or_split true q t = inl tt
or_split false q t = inr t

-- two tests are one where each passes if the other does
pub same_test : (p q : Bool) → (T p → T q) → (T q → T p) → p ≡ q
same_test true true f g = refl
same_test true false f g = absurd (f tt)
same_test false true f g = absurd (g tt)
same_test false false f g = refl

-- (`le_total` and `lt-or-ge` of the toolchain are truncated, so no data comes out of them)
pub either_way : (a b : ℕ) → (a ≤ b) ⊎ (b < a)
either_way a b = go (leb a b) (leb→le a b) (nleb→lt a b)
  where
    go : (t : Bool) → (T t → a ≤ b) → (T (not t) → b < a) → (a ≤ b) ⊎ (b < a)
    go true h k = inl (h tt)
    go false h k = inr (k tt)
