-- Distances enter terms and weighted squares by their squares alone: a lot with other distances and the same squares has the same.
use Rattle.lists.proofs.Base.{◌≡◌, sym, ap, ◌∙◌, List, ℕ, get_or, Float, nan}
use Rattle.float.specs.Floats.{◌⊗◌}
use Rattle.lists.specs.{Ranges.grid, Rows.entry}
use Rattle.lot.specs.{Lot.Lot, Kept.kept, Kept.kept_count, Mirror.with_distances}
use Rattle.lot.proofs.Transposed.{SameSquares, entry-squares}
use Rattle.permanova_sums.specs.Squares.{square_at, pair_term_at, weighted_square_at, pair_terms, weighted_squares, weights_of, pair_terms_of, weighted_squares_of}

module _ (lot : Lot) (e : List Float) (same : SameSquares e lot.distances) where
  same-square : (ks : List ℕ) (a b : ℕ) → square_at e lot.n ks a b ≡ square_at lot.distances lot.n ks a b
  unfolding square_at
  same-square ks a b =
      sym (entry-squares lot.n e (get_or ks a 0) (get_or ks b 0)) ∙ ap (λ (l : List Float). entry lot.n l (get_or ks a 0) (get_or ks b 0)) same
      ∙ entry-squares lot.n lot.distances (get_or ks a 0) (get_or ks b 0)

  pub same-terms : pair_terms_of (with_distances lot e) ≡ pair_terms_of lot
  unfolding pair_terms_of pair_terms pair_term_at weights_of
  same-terms = λ i. grid (kept_count lot.labels) (kept_count lot.labels)
      (λ a b. get_or (weights_of lot) a nan ⊗ get_or (weights_of lot) b nan ⊗ same-square (kept lot.labels) a b i)

  pub same-weighted : weighted_squares_of (with_distances lot e) ≡ weighted_squares_of lot
  unfolding weighted_squares_of weighted_squares weighted_square_at weights_of
  same-weighted = λ i. grid (kept_count lot.labels) (kept_count lot.labels) (λ a b. get_or (weights_of lot) b nan ⊗ same-square (kept lot.labels) a b i)
