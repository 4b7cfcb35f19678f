-- The matrix depends on columns alone: that of the columns is the Gram matrix of the hashes.
use Rattle.lists.proofs.Base.{◌≡◌, refl, sym, ap, ap₂, ◌∙◌, Bool, true, false, ◌&&◌, ◌||◌, cond, ◌⊎◌, inl, inr, List, [], ◌∷◌, map, ℕ, ◌+◌, ◌<◌}
use Rattle.lists.proofs.Base.{◌≤◌, min, max, arith, eq-eqb, ne_eqb, lt-ltb, le-ltb, eqb, ltb, length, get_or, drop, length-map, Float, nan}
use Rattle.float.specs.Floats.{◌⊕◌, ◌⊖◌, num, zero⁻}
use Rattle.lists.specs.{Ranges.range, Filters.filter, Filters.count_if, Filters.any, Filters.first_at, Numbers.contains, Numbers.position, Sums.sum_from}
use Rattle.lists.proofs.{Ranges.length-table, Ranges.get_or-table, Filters.drop_more, Counts.count-places, Counts.count-below}
use Rattle.lists.proofs.{Truths.same_or_not, Truths.never, Grids.grid-ext, Tallies.contains-cons, Parts.get_or-map-in}
use Rattle.ordination_hashes.specs.Selected.{selected, frequency}
use Rattle.ordination_sets.specs.Sets.{set_at, sets}
use Rattle.limits.specs.Limits.{none, most_selected}
use Rattle.ordination_hashes.specs.inner.Columns.{column_of}
use Rattle.lists.proofs.Upward.{Upward, upward-upward}
use Rattle.ordination_hashes.proofs.Upward.{position_at, contains-at}
use Rattle.ordination_gram.specs.inner.Columns.{square, column_sum, column_gram}
use Rattle.ordination_gram.proofs.Marks.{set-columns}
use Rattle.ordination_gram.specs.Gram.{mean_sum, shared, gram}

-- ---- a hash and its column

position-holds : (x : ℕ) (l : List ℕ) → contains x l ≡ true → (position x l < length l) × (get_or l (position x l) 0 ≡ x)
unfolding position first_at
position-holds x [] s = never (sym s ∙ (unfold contains any in refl))
position-holds x (y ∷ l) s = one (same_or_not x y) (λ t. position-holds x l t)
  where
    one : (x ≡ y) ⊎ (x ≡ y → ⊥) → (contains x l ≡ true → (position x l < length l) × (get_or l (position x l) 0 ≡ x)) →
        (position x (y ∷ l) < length (y ∷ l)) × (get_or (y ∷ l) (position x (y ∷ l)) 0 ≡ x)
    one (inl e) r = rw (eq-eqb x y e) (omega arith, sym e)
    one (inr d) r =
        let more = r (ap (λ (b : Bool). b || contains x l) (sym (ne_eqb x y d)) ∙ sym (contains-cons x y l) ∙ s) in
        rw (ne_eqb x y d) (omega (arith, more.0), more.1)

module _ (chosen : List ℕ) (up : Upward chosen) (few : length chosen ≤ most_selected) where
  column-yes : (h : ℕ) → contains h chosen ≡ true → column_of chosen h ≡ position h chosen
  unfolding column_of
  column-yes h s = ap (λ (b : Bool). cond b (position h chosen) none) s

  column-no : (h : ℕ) → contains h chosen ≡ false → column_of chosen h ≡ none
  unfolding column_of
  column-no h s = ap (λ (b : Bool). cond b (position h chosen) none) s

  -- it has a column where it is selected
  column-below : (h : ℕ) → ltb (column_of chosen h) (length chosen) ≡ contains h chosen
  column-below h = one (contains h chosen) refl
    where
      one : (b : Bool) → contains h chosen ≡ b → ltb (column_of chosen h) (length chosen) ≡ b
      one true s = lt-ltb (column_of chosen h) (length chosen) (omega (arith, column-yes h s, (position-holds h chosen s).0))
      one false s = le-ltb (column_of chosen h) (length chosen) (omega (arith, column-no h s))

  -- column c is that of the hash at place c
  column-is : (c x : ℕ) → c < length chosen → eqb c (column_of chosen x) ≡ eqb (get_or chosen c 0) x
  column-is c x h = one (same_or_not (get_or chosen c 0) x)
    where
      at : drop c chosen ≡ get_or chosen c 0 ∷ drop (c + 1) chosen
      at = drop_more chosen c 0 h

      contains-c : contains (get_or chosen c 0) chosen ≡ true
      contains-c = contains-at c (get_or chosen c 0) chosen (drop (c + 1) chosen) at

      other : (get_or chosen c 0 ≡ x → ⊥) → (b : Bool) → contains x chosen ≡ b → c ≡ column_of chosen x → ⊥
      other d true s e = let held = position-holds x chosen s in d (ap (λ (k : ℕ). get_or chosen k 0) (e ∙ column-yes x s) ∙ held.1)
      other d false s e = let far = column-no x s in omega arith

      one : (get_or chosen c 0 ≡ x) ⊎ (get_or chosen c 0 ≡ x → ⊥) → eqb c (column_of chosen x) ≡ eqb (get_or chosen c 0) x
      one (inl e) =
          let same : column_of chosen x ≡ c =
          ap (column_of chosen) (sym e) ∙ column-yes (get_or chosen c 0) contains-c ∙ position_at c (get_or chosen c 0) chosen (drop (c + 1) chosen) up at in
          eq-eqb c (column_of chosen x) (sym same) ∙ sym (eq-eqb (get_or chosen c 0) x e)
      one (inr d) = ne_eqb c (column_of chosen x) (other d (contains x chosen) refl) ∙ sym (ne_eqb (get_or chosen c 0) x d)

  contains-columns : (c : ℕ) (s : List ℕ) → c < length chosen → contains c (map (column_of chosen) s) ≡ contains (get_or chosen c 0) s
  unfolding contains any
  contains-columns c [] h = refl
  contains-columns c (x ∷ s) h = ap₂ (λ (a b : Bool). a || b) (column-is c x h) (contains-columns c s h)

  shared-columns : (s t : List ℕ) → count_if (λ c. contains c (map (column_of chosen) s) && contains c (map (column_of chosen) t)) (range 0 (length chosen)) ≡ shared chosen s t
  unfolding shared
  shared-columns s t =
      count-below (λ c. contains c (map (column_of chosen) s) && contains c (map (column_of chosen) t)) (λ c. contains (get_or chosen c 0) s && contains (get_or chosen c 0) t) (length chosen)
      (λ c h. ap₂ (λ (a b : Bool). a && b) (contains-columns c s h) (contains-columns c t h))
      ∙ sym (count-places (λ h. contains h s && contains h t) chosen)

  -- the sum of the means
  module _ (mean : ℕ → Float) where
    mean-at : (h : ℕ) (l : List ℕ) → contains h l ≡ true → get_or (map mean l) (position h l) nan ≡ mean h
    unfolding position first_at
    mean-at h [] e = never (sym e ∙ (unfold contains any in refl))
    mean-at h (y ∷ ys) e = one (same_or_not h y) (λ t. mean-at h ys t)
      where
        one : (h ≡ y) ⊎ (h ≡ y → ⊥) → (contains h ys ≡ true → get_or (map mean ys) (position h ys) nan ≡ mean h) → get_or (map mean (y ∷ ys)) (position h (y ∷ ys)) nan ≡ mean h
        one (inl s) r = rw (eq-eqb h y s) (ap mean (sym s))
        one (inr d) r = rw (ne_eqb h y d) (r (ap (λ (b : Bool). b || contains h ys) (sym (ne_eqb h y d)) ∙ sym (contains-cons h y ys) ∙ e))

    means-are : (s : List ℕ) → map (λ c. get_or (map mean chosen) c nan) (filter (λ c. ltb c (length (map mean chosen))) (map (column_of chosen) s))
        ≡ map mean (filter (λ h. contains h chosen) s)
    unfolding filter
    means-are [] = refl
    means-are (h ∷ s) =
        ap (λ (b : Bool). map at (cond b (column_of chosen h ∷ filter has (map (column_of chosen) s)) (filter has (map (column_of chosen) s))))
        (ap (ltb (column_of chosen h)) (length-map chosen mean) ∙ column-below h) ∙ one (contains h chosen) refl (means-are s)
      where
        at : ℕ → Float
        at c = get_or (map mean chosen) c nan

        has : ℕ → Bool
        has c = ltb c (length (map mean chosen))

        one : (b : Bool) → contains h chosen ≡ b → map at (filter has (map (column_of chosen) s)) ≡ map mean (filter (λ x. contains x chosen) s)
            → map at (cond b (column_of chosen h ∷ filter has (map (column_of chosen) s)) (filter has (map (column_of chosen) s)))
            ≡ map mean (cond b (h ∷ filter (λ x. contains x chosen) s) (filter (λ x. contains x chosen) s))
        one true e r = ap₂ (λ (x : Float) (l : List Float). x ∷ l) (ap (λ (c : ℕ). get_or (map mean chosen) c nan) (column-yes h e) ∙ mean-at h chosen e) r
        one false e r = r

-- ---- the Gram matrix of the hashes

module _ (n : ℕ) (hashes offsets : List ℕ) (few : length (selected n hashes) ≤ most_selected) where
  abbrev chosen : List ℕ
  chosen = selected n hashes

  abbrev columns : List ℕ
  columns = map (column_of chosen) hashes

  abbrev means : List Float
  means = map (frequency n hashes) chosen

  upward-chosen : Upward chosen
  unfolding selected
  upward-chosen = upward-upward _

  sum-columns : (i : ℕ) → column_sum means (set_at columns offsets i) ≡ mean_sum n hashes chosen (set_at hashes offsets i)
  unfolding column_sum mean_sum
  sum-columns i = ap (column_sum means) (set-columns chosen hashes offsets i) ∙ ap (sum_from zero⁻) (means-are chosen upward-chosen few (frequency n hashes) (set_at hashes offsets i))

  shared-sets : (i j : ℕ) → count_if (λ c. contains c (set_at columns offsets i) && contains c (set_at columns offsets j)) (range 0 (length means))
      ≡ shared chosen (set_at hashes offsets i) (set_at hashes offsets j)
  shared-sets i j =
      ap₂ (λ (s t : List ℕ). count_if (λ c. contains c s && contains c t) (range 0 (length means))) (set-columns chosen hashes offsets i) (set-columns chosen hashes offsets j)
      ∙ ap (λ (m : ℕ). count_if
      (λ c. contains c (map (column_of chosen) (set_at hashes offsets i)) && contains c (map (column_of chosen) (set_at hashes offsets j))) (range 0 m))
      (length-map chosen (frequency n hashes)) ∙ shared-columns chosen upward-chosen few (set_at hashes offsets i) (set_at hashes offsets j)

  set-at : (i : ℕ) → i < n → get_or (sets n hashes offsets) i [] ≡ set_at hashes offsets i
  unfolding sets
  set-at i h = get_or-table (set_at hashes offsets) n i [] h

  sum-at : (i : ℕ) → i < n → get_or (map (mean_sum n hashes chosen) (sets n hashes offsets)) i nan ≡ mean_sum n hashes chosen (set_at hashes offsets i)
  sum-at i h =
      get_or-map-in (mean_sum n hashes chosen) (sets n hashes offsets) i nan [] (omega (arith, long)) ∙ ap (mean_sum n hashes chosen) (set-at i h)
    where
      long : length (sets n hashes offsets) ≡ n
      long = unfold sets in length-table (set_at hashes offsets) n

  entry-is : (i j : ℕ) → i < n → j < n
      → num (count_if (λ c. contains c (set_at columns offsets i) && contains c (set_at columns offsets j)) (range 0 (length means))) ⊖ column_sum means
      (set_at columns offsets i) ⊖ column_sum means (set_at columns offsets j) ⊕ sum_from zero⁻ (map square means)
      ≡ num (shared chosen (get_or (sets n hashes offsets) i []) (get_or (sets n hashes offsets) j [])) ⊖ get_or
      (map (mean_sum n hashes chosen) (sets n hashes offsets)) i nan ⊖ get_or (map (mean_sum n hashes chosen) (sets n hashes offsets)) j nan ⊕ sum_from
      zero⁻ (map square means)
  entry-is i j h g = rw (shared-sets i j, sum-columns i, sum-columns j, set-at i h, set-at j g, sum-at i h, sum-at j g)

  pub gram-is : column_gram n columns offsets means ≡ gram n hashes offsets
  unfolding column_gram gram
  gram-is = grid-ext n n _ _ (λ i j h g. entry-is (min i j) (max i j) (omega arith) (omega arith))
