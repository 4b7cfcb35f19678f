-- Truths joined, and two numbers compared.
use Rattle.lists.proofs.Base.{◌≡◌, refl, sym, ap, Bool, true, false, ◌&&◌, ◌||◌, cond, true≢false, ◌⊎◌, inl, inr, ⊎_elim, arith}
use Prim.Native.Nat.{ℕ, zero, suc, ◌<◌, ◌≤◌, zero-le, suc-le-suc}

pub and_both : (a b : Bool) → (a && b) ≡ true → (a ≡ true) × (b ≡ true)
and_both true b e = (refl, e)
and_both false b e = absurd (true≢false (sym e))

pub or-neither : (a b : Bool) → (a || b) ≡ false → (a ≡ false) × (b ≡ false)
or-neither true b e = absurd (true≢false e)
or-neither false b e = (refl, e)

pub or-false : (b : Bool) → (b || false) ≡ b
or-false true = refl
or-false false = refl

pub or-true : (b : Bool) → (b || true) ≡ true
or-true true = refl
or-true false = refl

-- tests that hold together are one
pub both_ways : (a b : Bool) → (a ≡ true → b ≡ true) → (b ≡ true → a ≡ true) → a ≡ b
both_ways true b f g = sym (f refl)
both_ways false true f g = g refl
both_ways false false f g = refl

pub never : {A : Type 0} → true ≡ false → A
never e = let z : ◌≡◌ {A = ℕ} 1 0 = ap (λ (b : Bool). cond b 1 0) e in absurd (omega arith)

-- two numbers

pub order : (x y : ℕ) → (x ≤ y) ⊎ (y < x)
order zero y = inl zero-le
order (suc x) zero = inr (suc-le-suc zero-le)
order (suc x) (suc y) = ⊎_elim (λ p. inl (suc-le-suc p)) (λ q. inr (suc-le-suc q)) (order x y)

pub same_or_not : (x y : ℕ) → (x ≡ y) ⊎ (x ≡ y → ⊥)
same_or_not x y =
    ⊎_elim (λ (p : x ≤ y). ⊎_elim (λ (q : y ≤ x). inl (omega arith)) (λ (q : x < y). inr (λ e. omega arith)) (order y x)) (λ (p : y < x). inr (λ e. omega arith)) (order x y)
