-- At most 30 power steps, that may end early: whether the loop ends, goes on, or has no turn left.
use Rattle.lists.proofs.Base.{◌≡◌, sym, ap, ap₂, ◌∙◌, true, false, List, ℕ, suc, ◌+◌, ◌-◌, ◌<◌, ◌≤◌, arith}
use lib.Ieee.{Float, eq}
use Rattle.float.specs.Floats.{zero⁺}
use Rattle.eigen_vectors.specs.{Vectors.norm, Vectors.divided, Products.times}
use Rattle.eigen_block.specs.Power.{power_bound}

-- k power steps are made of 30; r is the length of the next product
module _ (n : ℕ) (a : List Float) (k : ℕ) (rho : Float) (x : List Float) where
  pub power-none : 30 ≤ k → rho ≡ power_bound (30 - k) n a rho x
  unfolding power_bound
  power-none h = let none : 30 - k ≡ 0 = omega arith in rw none

  module _ (h : k < 30) where
    left : 30 - k ≡ suc (29 - k)
    left = omega arith

    power-end' : eq (norm (times n a x)) zero⁺ ≡ true → norm (times n a x) ≡ power_bound (30 - k) n a rho x
    unfolding power_bound
    power-end' e = rw (left, e, power_bound)

    power-on' : eq (norm (times n a x)) zero⁺ ≡ false
        → power_bound (30 - (k + 1)) n a (norm (times n a x)) (divided (norm (times n a x)) (times n a x)) ≡ power_bound (30 - k) n a rho x
    unfolding power_bound
    power-on' e = let one_less : 30 - (k + 1) ≡ 29 - k = omega arith in rw (one_less, left, e, power_bound)

    module _ {r : Float} (step : r ≡ norm (times n a x)) where
      pub power-end : eq r zero⁺ ≡ true → r ≡ power_bound (30 - k) n a rho x
      power-end e = step ∙ power-end' (ap (λ (t : Float). eq t zero⁺) (sym step) ∙ e)

      pub power-on : {x' : List Float} → eq r zero⁺ ≡ false → x' ≡ divided r (times n a x) → power_bound (30 - (k + 1)) n a r x' ≡ power_bound (30 - k) n a rho x
      power-on e f =
          ap₂ (power_bound (30 - (k + 1)) n a) step (f ∙ ap (λ (t : Float). divided t (times n a x)) step) ∙ power-on' (ap (λ (t : Float). eq t zero⁺) (sym step) ∙ e)
