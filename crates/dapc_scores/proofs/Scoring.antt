-- A row of scores more, and a sample more in its group's centroid.
-- `&x[i * columns..i * columns + p]` is lent as `take .. (drop ..)`.
use Rattle.lists.proofs.Base.{◌≡◌, sym, ap, ap₂, subst, ◌∙◌, List, map, ℕ, ◌+◌, ◌-◌, ◌*◌, ◌<◌, ◌≤◌, arith, length, get_or, replicate, Float, nan, put_mid}
use Rattle.float.specs.Floats.{◌⊕◌, ◌⊖◌, ◌⊗◌, ◌⊘◌, num, zero⁺}
use Rattle.lists.specs.{Ranges.table, Ranges.rows, Ranges.grid, Numbers.in_group, Numbers.members, Sums.sum_from, Sums.sum⁻, Rows.entry}
use Rattle.lists.proofs.{Ranges.length-table, Ranges.get_or-table, Ranges.table-ext, Rows.row-end, Rows.length_part, Zips.zip-table}
use Rattle.eigen_vectors.specs.Vectors.{dot}
use Rattle.limits.specs.Limits.{none}
use Rattle.lot.specs.Kept.{sizes}
use Rattle.lists.proofs.Grids.{part-entry, grid-ext, entry-replicate}
use Rattle.dapc_scatter.proofs.{Adding.Adding, Adding.adding-pass, Adding.adding-row, Adding.adding-all, Adding.cell_sum, Counting.get_or-sizes}
use Rattle.dapc_scatter.proofs.{Groups.in-own, Groups.in_one, Groups.in-none, MeanSums.front}
use Rattle.dapc_scores.specs.Scores.{scores_of, centroids}

-- ---- scores

module _ (n columns p axes : ℕ) (x mean vs : List Float) where
  -- the scores of sample i
  abbrev pub scored : ℕ → List Float
  scored i = table axes (λ a. sum⁻ (table p (λ c. (entry columns x i c ⊖ get_or mean c nan) ⊗ entry p vs a c)))

  pub scored-long : (i : ℕ) → length (scored i) ≡ axes
  scored-long i = length-table (λ a. sum⁻ (table p (λ c. (entry columns x i c ⊖ get_or mean c nan) ⊗ entry p vs a c))) axes

  pub scored-row : (i : ℕ) {d r : List Float} {k j : ℕ} → k ≡ p → d ≡ table k (λ c. get_or (front columns i p x) c nan ⊖ get_or mean c nan)
      → j ≡ axes → r ≡ table j (λ a. sum⁻ (table p (λ c. get_or d c nan ⊗ entry p vs a c))) → r ≡ scored i
  scored-row i {d} {r} {k} {j} wide diff long is =
      let f : ℕ → Float = λ c. get_or (front columns i p x) c nan ⊖ get_or mean c nan in
      is ∙ ap (λ (m : ℕ). table m (λ a. sum⁻ (table p (λ c. get_or d c nan ⊗ entry p vs a c)))) long
      ∙ table-ext (λ a. sum⁻ (table p (λ c. get_or d c nan ⊗ entry p vs a c))) (λ a. sum⁻ (table p (λ c. (entry columns x i c ⊖ get_or mean c nan) ⊗ entry p vs a c))) axes
      (λ a _. ap sum⁻ (table-ext (λ c. get_or d c nan ⊗ entry p vs a c) (λ c. (entry columns x i c ⊖ get_or mean c nan) ⊗ entry p vs a c) p
      (λ c h. ap (λ (u : Float). u ⊗ entry p vs a c) (far c h))))
    where
      far : (c : ℕ) → c < p → get_or d c nan ≡ entry columns x i c ⊖ get_or mean c nan
      far c h = ap (λ (l : List Float). get_or l c nan) diff
          ∙ get_or-table (λ c. get_or (front columns i p x) c nan ⊖ get_or mean c nan) k c nan (omega arith)
          ∙ ap (λ (u : Float). u ⊖ get_or mean c nan) (part-entry columns i p x c h)

  pub scored-all : {l : List Float} → l ≡ rows n scored → l ≡ scores_of n columns p axes x mean vs
  unfolding scores_of grid
  scored-all e = e

-- ---- centroids

module _ (axes g : ℕ) (groups : List ℕ) (scores : List Float) (counts : List ℕ) (m₀ : List Float) where
  -- a sample's part of its group's centroid
  abbrev pub share : ℕ → ℕ → ℕ → Float
  share j a i = entry axes scores i a ⊘ num (get_or counts j 0)

  abbrev pub CentroidsAdded : List Float → ℕ → Type 0
  CentroidsAdded m i = Adding g axes (in_group groups) share (length groups) m₀ m i

  pub centroid-turn : (m r : List Float) {m' : List Float} {i j k : ℕ} → CentroidsAdded m i → i < length groups → j ≡ get_or groups i 0 → j < g → k ≡ get_or counts j 0
      → r ≡ table (length (front axes j axes m)) (λ c. get_or (front axes j axes m) c nan ⊕ get_or (front axes i axes scores) c nan ⊘ num k)
      → m' ≡ put_mid (j * axes) (j * axes + axes - j * axes) m r → CentroidsAdded m' (i + 1)
  centroid-turn m r {m'} {i} {j} {k} a h e below size is put =
      let fits : j * axes + axes ≤ length m = omega (arith, row-end axes j g below, a.long) in
      let f : ℕ → Float = λ c. get_or (front axes j axes m) c nan ⊕ get_or (front axes i axes scores) c nan ⊘ num k in
      let row : r ≡ table axes f = is ∙ ap (λ (n : ℕ). table n f) (length_part axes j m fits) in
      subst (λ (l : List Float). CentroidsAdded l (i + 1)) (sym put)
      (adding-row g axes (in_group groups) share (length groups) m₀ m r a h below (ap length row ∙ length-table f axes) (in-own groups i e) (in_one groups i e)
      (λ c z. ap (λ (l : List Float). get_or l c nan) row ∙ get_or-table f axes c nan z
      ∙ ap₂ (λ (u v : Float). u ⊕ v) (part-entry axes j axes m c z) (ap₂ (λ (u : Float) (n : ℕ). u ⊘ num n) (part-entry axes i axes scores c z) size)))

  pub centroid-pass : (m : List Float) {m' : List Float} {i j : ℕ} → CentroidsAdded m i → i < length groups → j ≡ get_or groups i 0 → g ≤ none → j ≡ none → m' ≡ m
      → CentroidsAdded m' (i + 1)
  centroid-pass m {m'} {i} a h e small q is = subst (λ (l : List Float). CentroidsAdded l (i + 1)) (sym is)
      (adding-pass g axes (in_group groups) share (length groups) m₀ a h (in-none groups i e g small q))

  pub centroid-end : {m : List Float} {i : ℕ} → CentroidsAdded m i → length groups ≤ i → m₀ ≡ replicate (g * axes) zero⁺ → counts ≡ sizes groups (length groups) g
      → m ≡ centroids axes g groups scores
  unfolding centroids members
  centroid-end a h blank counted =
      let mem : ℕ → List ℕ = members groups (length groups) in
      adding-all g axes (in_group groups) share (length groups) m₀ a h
      ∙ grid-ext g axes (λ j c. cell_sum (in_group groups j) (share j c) 0 (length groups) (entry axes m₀ j c))
      (λ j c. sum_from zero⁺ (map (λ i. entry axes scores i c ⊘ num (length (mem j))) (mem j))) (λ j c y z.
      ap₂ (λ (s : Float) (n : ℕ). sum_from s (map (λ i. entry axes scores i c ⊘ num n) (mem j)))
      (ap (λ (l : List Float). entry axes l j c) blank ∙ entry-replicate g axes zero⁺ j c y z)
      (ap (λ (l : List ℕ). get_or l j 0) counted ∙ get_or-sizes groups (length groups) g j y))

-- a direction is lent by itself
pub dot-part : (p : ℕ) (d vs : List Float) (a : ℕ) → length d ≡ p → length (front p a p vs) ≡ length d
    → dot d (front p a p vs) ≡ sum⁻ (table p (λ c. get_or d c nan ⊗ entry p vs a c))
unfolding dot
dot-part p d vs a e f = ap sum⁻ (sym (zip-table (λ u v. u ⊗ v) d (front p a p vs) nan nan (sym f)))
    ∙ ap (λ (k : ℕ). sum⁻ (table k (λ c. get_or d c nan ⊗ get_or (front p a p vs) c nan))) e
    ∙ ap sum⁻ (table-ext (λ c. get_or d c nan ⊗ get_or (front p a p vs) c nan) (λ c. get_or d c nan ⊗ entry p vs a c) p (λ c h. ap (λ (u : Float). get_or d c nan ⊗ u) (part-entry p a p vs c h)))
