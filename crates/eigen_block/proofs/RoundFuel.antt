-- At most 3,000 rounds, that may end early: whether the loop ends, goes on, or has no turn left.
use Rattle.lists.proofs.Base.{◌≡◌, sym, ap, ap₂, ◌∙◌, true, false, List, ℕ, suc, ◌+◌, ◌-◌, ◌<◌, ◌≤◌, arith, Float}
use Rattle.eigen_vectors.specs.Products.{times_block}
use Rattle.eigen_block.specs.Rounds.{block_step, ritz, converged, iterate}

-- t rounds are made of 3000; p is the block after the next one, and `latest` its Ritz values
module _ (n : ℕ) (a : List Float) (b k : ℕ) (shift : Float) (t : ℕ) (before q : List Float) where
  pub rounds-none : 3000 ≤ t → q ≡ iterate (3000 - t) n a b k shift before q
  unfolding iterate
  rounds-none h = let none : 3000 - t ≡ 0 = omega arith in rw none

  module _ (h : t < 3000) {p latest : List Float} (step : p ≡ block_step n a b shift q) (values : latest ≡ ritz n k p (times_block n a b p)) where
    more : 3000 - t ≡ suc (2999 - t)
    more = omega arith

    values' : latest ≡ ritz n k (block_step n a b shift q) (times_block n a b (block_step n a b shift q))
    values' = values ∙ ap (λ (u : List Float). ritz n k u (times_block n a b u)) step

    same : converged (ritz n k (block_step n a b shift q) (times_block n a b (block_step n a b shift q))) before ≡ converged latest before
    same = ap (λ (u : List Float). converged u before) (sym values')

    pub rounds-end : converged latest before ≡ true → p ≡ iterate (3000 - t) n a b k shift before q
    unfolding iterate
    rounds-end e = let e' = same ∙ e in step ∙ (rw (more, e', iterate))

    pub rounds-on : converged latest before ≡ false → iterate (3000 - (t + 1)) n a b k shift latest p ≡ iterate (3000 - t) n a b k shift before q
    unfolding iterate
    rounds-on e =
        let e' = same ∙ e in
        let one_less : 3000 - (t + 1) ≡ 2999 - t = omega arith in
        ap₂ (iterate (3000 - (t + 1)) n a b k shift) values' step ∙ (rw (one_less, more, e', iterate))
