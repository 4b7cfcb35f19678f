-- What the loops leave is the matrix of columns.
use Rattle.lists.proofs.Base.{◌≡◌, ap, ap₂, ◌∙◌, ◌&&◌, List, map, ℕ, ◌*◌, ◌<◌, ◌≤◌, min, max, arith, length, get_or, Float, nan}
use Rattle.float.specs.Floats.{◌⊕◌, ◌⊖◌, num, zero⁻}
use Rattle.lists.specs.{Ranges.range, Ranges.table, Ranges.rows, Ranges.grid, Filters.count_if, Numbers.contains, Rows.row, Sums.sum_from, Writes.over}
use Rattle.lists.proofs.{Ranges.length-table, Ranges.get_or-table, Writes.get_d_over, Grids.row-rows, Grids.grid-ext}
use Rattle.ordination_sets.specs.Sets.{set_at}
use Rattle.ordination_gram.specs.inner.Bits.{packed, common, present}
use Rattle.ordination_gram.proofs.Bits.{common-packed, both-table, length-packed}
use Rattle.ordination_gram.specs.inner.Columns.{square, column_sum, entry_at, column_gram}

module _ (n w : ℕ) (columns offsets : List ℕ) (means : List Float) (enough : length means ≤ w * 64)
    {words : List ℕ} (words₀ : List ℕ) (bits : words ≡ over (rows n (λ i. packed w (present (length means) (set_at columns offsets i)))) words₀)
    {sums : List Float} (sums₀ : List Float) (summed : sums ≡ over (table n (λ i. column_sum means (set_at columns offsets i))) sums₀)
    {t : Float} (squares : t ≡ sum_from zero⁻ (map square means)) where
  abbrev set : ℕ → List ℕ
  set i = set_at columns offsets i

  row_is : (i : ℕ) → i < n → row w i words ≡ packed w (present (length means) (set i))
  unfolding over
  row_is i h = ap (row w i) bits ∙ row-rows w (λ i. packed w (present (length means) (set i))) (λ i. length-packed w _) n i _ h

  shared-is : (i j : ℕ) → i < n → j < n → common (row w i words) (row w j words) ≡ count_if (λ c. contains c (set i) && contains c (set j)) (range 0 (length means))
  shared-is i j h g =
      let m = length means in
      ap₂ common (row_is i h) (row_is j g)
      ∙ common-packed w (present m (set i)) (present m (set j)) (omega (arith, length-table (λ c. contains c (set i)) m))
      ∙ both-table (λ c. contains c (set i)) (λ c. contains c (set j)) m

  sum_is : (i : ℕ) → i < n → get_or sums i nan ≡ column_sum means (set i)
  sum_is i h =
      let f : ℕ → Float = λ i. column_sum means (set i) in
      let long = length-table f n in
      ap (λ (l : List Float). get_or l i nan) summed ∙ get_d_over (table n f) sums₀ i nan (omega arith) ∙ get_or-table f n i nan h

  pub matrix-is : grid n n (λ i j. entry_at w words sums t (min i j) (max i j)) ≡ column_gram n columns offsets means
  unfolding column_gram entry_at
  matrix-is = grid-ext n n _ _ (λ i j h g. entry-is (min i j) (max i j) (omega arith) (omega arith))
    where
      entry-is : (i j : ℕ) → i < n → j < n → num (common (row w i words) (row w j words)) ⊖ get_or sums i nan ⊖ get_or sums j nan ⊕ t
          ≡ num (count_if (λ c. contains c (set_at columns offsets i) && contains c (set_at columns offsets j)) (range 0 (length means))) ⊖ column_sum
          means (set_at columns offsets i) ⊖ column_sum means (set_at columns offsets j) ⊕ sum_from zero⁻ (map square means)
      entry-is i j h g = rw (shared-is i j h g, sum_is i h, sum_is j g, squares)
