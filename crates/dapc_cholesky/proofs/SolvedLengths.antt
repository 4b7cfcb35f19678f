-- What is solved has as many entries as it had.
use Rattle.lists.proofs.Base.{◌≡◌, ◌∙◌, List, ℕ, ◌+◌, ◌-◌, length, set, replicate, length-set, length-replicate, Float}
use Rattle.float.specs.Floats.{zero⁺}
use Rattle.lists.specs.Loops.{down_to}
use Rattle.lists.proofs.Loops.{length-in_turn}
use Rattle.dapc_cholesky.specs.Triangular.{lower_at, solve_lower, upper_at, solve_upper}

module _ (p : ℕ) (l b : List Float) where
  pub length-lower : length (solve_lower p l b) ≡ p
  unfolding solve_lower
  length-lower = length-in_turn (λ i x. set x i (lower_at p l b i x)) (λ i x. length-set x i (lower_at p l b i x)) p (replicate p zero⁺) ∙ length-replicate p zero⁺

  pub length-upper : length (solve_upper p l b) ≡ p
  unfolding solve_upper down_to
  length-upper =
      length-in_turn (λ j x. set x (p - (j + 1)) (upper_at p l b (p - (j + 1)) x)) (λ j x. length-set x (p - (j + 1)) (upper_at p l b (p - (j + 1)) x)) (p - 0) (replicate p zero⁺)
      ∙ length-replicate p zero⁺
