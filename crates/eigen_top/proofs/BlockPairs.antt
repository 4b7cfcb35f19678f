-- The block iteration put together: the shift, the rounds, Rayleigh-Ritz on the last block.
use Rattle.lists.proofs.Base.{◌≡◌, sym, ap, ◌∙◌, List, ℕ, ◌*◌, zero-mul, length, take, drop, replicate, length-replicate, Float}
use Rattle.float.specs.Floats.{◌⊗◌, zero⁺, 1·05}
use Rattle.lists.specs.Rows.{row}
use Rattle.eigen_vectors.specs.Products.{times_block}
use Rattle.eigen_block.specs.{Orthonormal.first_block, Power.power_bound, Rounds.iterate}
use Rattle.eigen_ritz.specs.Ritz.{rayleigh_ritz}
use Rattle.eigen_top.specs.Subspace.{shift_of, last_block, by_block}

module _ (n : ℕ) (a : List Float) (b : ℕ) where
  -- the power steps begin with the block's first column
  pub shift_is : {q x : List Float} {r : Float} → q ≡ first_block n b → x ≡ take n q → r ≡ power_bound 30 n a zero⁺ x → r ⊗ 1·05 ≡ shift_of n a (first_block n b)
  unfolding shift_of row
  shift_is {q} {x} {r} e f g =
      let column : x ≡ take n (drop (0 * n) (first_block n b)) = f ∙ ap (take n) e ∙ ap (λ (j : ℕ). take n (drop j (first_block n b))) (sym (zero-mul n)) in
      ap (λ (t : Float). t ⊗ 1·05) (g ∙ ap (power_bound 30 n a zero⁺) column)

  -- the rounds, started as they are
  pub last-is : (k : ℕ) {shift : Float} {before q q' : List Float} → q ≡ first_block n b → shift ≡ shift_of n a (first_block n b) → before ≡ replicate k zero⁺
      → q' ≡ iterate 3000 n a b (length before) shift before q → q' ≡ last_block k b n a
  unfolding last_block
  last-is k {shift} {before} {q} e f g h =
      let many : length before ≡ k = ap length g ∙ length-replicate k zero⁺ in h ∙ (λ i. iterate 3000 n a b (many i) (f i) (g i) (e i))

  -- Rayleigh-Ritz on the last block
  pub block-pairs : (k : ℕ) {q aq : List Float} → q ≡ last_block k b n a → aq ≡ times_block n a b q → rayleigh_ritz n b k q aq ≡ by_block k b n a
  unfolding by_block
  block-pairs k {q} e f = ap (rayleigh_ritz n b k q) f ∙ ap (λ (u : List Float). rayleigh_ritz n b k u (times_block n a b u)) e
