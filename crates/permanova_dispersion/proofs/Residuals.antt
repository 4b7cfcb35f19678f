-- A turn of the sum of residuals: what is still to come, added to s, is the whole sum.
use Rattle.lists.proofs.Base.{◌≡◌, refl, sym, subst, List, ℕ, ◌+◌, ◌<◌, map, length, get_or, Float, nan}
use Rattle.float.specs.Floats.{◌⊕◌, ◌⊖◌, ◌⊗◌}
use Rattle.lists.specs.{Ranges.range, Sums.sum_from}
use Rattle.lists.proofs.Sums.{sum-turn}
use Rattle.permanova_sums.specs.PairSums.{at}
use Rattle.permanova_dispersion.specs.Anova.{squared, residual_at}

module _ (z means : List Float) (lab : List ℕ) (i : ℕ) {x : Float} {l : ℕ} where
  pub residual-is : x ≡ get_or z i nan → l ≡ get_or lab i 0 → (x ⊖ at means l) ⊗ (x ⊖ at means l) ≡ residual_at z means lab i
  unfolding residual_at squared
  residual-is ex el = rw (ex, el)

  pub residual-turn : (s : Float) {t : Float} {j : ℕ} → i < length z → x ≡ get_or z i nan → l ≡ get_or lab i 0 → j ≡ i + 1
      → sum_from s (map (residual_at z means lab) (range i (length z))) ≡ t
      → sum_from (s ⊕ ((x ⊖ at means l) ⊗ (x ⊖ at means l))) (map (residual_at z means lab) (range j (length z))) ≡ t
  residual-turn s {t} h ex el next inv =
      subst (λ (n : ℕ). sum_from (s ⊕ ((x ⊖ at means l) ⊗ (x ⊖ at means l))) (map (residual_at z means lab) (range n (length z))) ≡ t) (sym next)
      (sum-turn (residual_at z means lab) s i (length z) h (residual-is ex el) refl inv)
