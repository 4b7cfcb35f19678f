-- A group more that may be nearer. The invariant `Nearing`: of the first j distances the least is known, and whether one is a NaN.
use Rattle.lists.proofs.Base.{◌≡◌, refl, sym, ap, ap₂, subst, ◌∙◌, Bool, true, false, cond, ◌||◌, List, [], ◌∷◌, map, ℕ, ◌+◌, ◌<◌, ◌≤◌, arith, T, length, get_or, take, get_or-take}
use lib.Ieee.{Float, nan, lt, ne, is_nan}
use Rattle.float.specs.Floats.{◌⊕◌, ◌⊖◌, ◌⊗◌, zero⁻}
use Rattle.float.proofs.Nan.{nan-ne, is-nan}
use Rattle.lists.specs.{Ranges.range, Ranges.table, Loops.in_turn, Filters.any, Sums.sum⁻, Sums.sum_from, Rows.entry}
use Rattle.lists.proofs.{Ranges.length-table, Ranges.get_or-table, Ranges.table-ext, Ranges.table-range, Filters.range-any-none}
use Rattle.lists.proofs.Sums.{sum-turn, sum-end, sum-table}
use Rattle.lists.proofs.{Loops.in_turn-none, Loops.in_turn-next, Searches.any-more, Grids.first-row, Grids.part-entry, Truths.or-false, Truths.or-true}
use Rattle.dapc_scatter.proofs.MeanSums.{front}
use Rattle.dapc_scores.specs.Assigned.{gap, nearest_of}

-- two rows alone
gap_row : (x y : List Float) → sum⁻ (table (length x) (λ k. (get_or x k nan ⊖ get_or y k nan) ⊗ (get_or x k nan ⊖ get_or y k nan))) ≡ gap (length x) x y 0 0
unfolding gap
gap_row x y =
    let f : ℕ → Float = λ k. get_or x k nan ⊖ get_or y k nan in
    let h : ℕ → Float = λ k. entry (length x) x 0 k ⊖ entry (length x) y 0 k in
    ap sum⁻ (table-ext (λ k. f k ⊗ f k) (λ k. h k ⊗ h k) (length x)
    (λ k _. ap (λ (d : Float). d ⊗ d) (ap₂ (λ (u v : Float). u ⊖ v) (sym (first-row (length x) x k)) (sym (first-row (length x) y k)))))

-- its sum, entry after entry: with the squares from entry i on, s is the whole
abbrev pub square : List Float → List Float → ℕ → Float
square x y k = (get_or x k nan ⊖ get_or y k nan) ⊗ (get_or x k nan ⊖ get_or y k nan)

pub record Summing (x y : List Float) (s : Float) (i : ℕ) : Type 0 where
  pub left : sum_from s (map (square x y) (range i (length x))) ≡ sum⁻ (table (length x) (square x y))

module _ (x y : List Float) where
  pub summing-none : Summing x y zero⁻ 0
  summing-none = record { left = sym (sum-table zero⁻ (length x) (square x y)) }

  -- the entries of that place, and the next place, by other names
  pub summing-turn : {s u v : Float} {i j : ℕ} → i < length x → u ≡ get_or x i nan → v ≡ get_or y i nan → j ≡ i + 1 → Summing x y s i
      → Summing x y (s ⊕ (u ⊖ v) ⊗ (u ⊖ v)) j
  summing-turn {s} {u} {v} {i} h p q e w = rw (p, q, e) (record { left = sum-turn (square x y) s i (length x) h refl refl w.left })

  pub summing-all : {s : Float} {i : ℕ} → length x ≤ i → Summing x y s i → s ≡ gap (length x) x y 0 0
  summing-all {s} {i} h w = sum-end (square x y) s i (length x) h w.left ∙ gap_row x y

-- the distance to one centroid of many: the first, and one that is lent by itself
module _ (axes : ℕ) (row cen : List Float) (wide : length row ≡ axes) where
  gap-to : (other : List Float) (j : ℕ) → ((a : ℕ) → a < axes → get_or other a nan ≡ entry axes cen j a) → gap (length row) row other 0 0 ≡ gap axes row cen 0 j
  unfolding gap
  gap-to other j same =
      let f : Float → ℕ → Float = λ u a. (entry axes row 0 a ⊖ u) ⊗ (entry axes row 0 a ⊖ u) in
      ap (λ (w : ℕ). gap w row other 0 0) wide
      ∙ ap sum⁻ (table-ext (λ a. f (entry axes other 0 a) a) (λ a. f (entry axes cen j a) a) axes (λ a h. ap (λ (u : Float). f u a) (first-row axes other a ∙ same a h)))

  pub gap-first : gap (length row) row (take axes cen) 0 0 ≡ gap axes row cen 0 0
  gap-first = gap-to (take axes cen) 0 (λ a h. get_or-take axes cen a nan h ∙ sym (first-row axes cen a))

  pub gap-part : (j : ℕ) → gap (length row) row (front axes j axes cen) 0 0 ≡ gap axes row cen 0 j
  gap-part j = gap-to (front axes j axes cen) j (λ a h. part-entry axes j axes cen a h)

-- the three cases of `nearer`: a NaN, which is not less than anything; less; not less
module _ (j k : ℕ) (d least : Float) (nans : Bool) where
  abbrev pub Nearer : ℕ → Float → Bool → Type 0
  Nearer k' least' nans' = (k' ≡ cond (lt d least) j k) × (least' ≡ cond (lt d least) d least) × (nans' ≡ (nans || is_nan d))

  by-test : (b c : Bool) → lt d least ≡ b → is_nan d ≡ c → Nearer (cond b j k) (cond b d least) (nans || c)
  by-test b c e f = (ap (λ (t : Bool). cond t j k) (sym e), ap (λ (t : Bool). cond t d least) (sym e), ap (λ (t : Bool). nans || t) (sym f))

  pub nearer-nan : ne d d ≡ true → Nearer k least true
  unfolding lt
  nearer-nan t =
      let is : is_nan d ≡ true = sym (nan-ne d) ∙ t in
      let not-less : lt d least ≡ false = ap (λ (x : Float). lt x least) (is-nan d (subst T (sym is) tt)) in
      let r = by-test false true not-less is in (r.0, r.1, sym (or-true nans) ∙ r.2)

  pub nearer-less : ne d d ≡ false → lt d least ≡ true → Nearer j d nans
  nearer-less t less = let r = by-test true false less (sym (nan-ne d) ∙ t) in (r.0, r.1, sym (or-false nans) ∙ r.2)

  pub nearer-not : ne d d ≡ false → lt d least ≡ false → Nearer k least nans
  nearer-not t not-less = let r = by-test false false not-less (sym (nan-ne d) ∙ t) in (r.0, r.1, sym (or-false nans) ∙ r.2)

any-map : {A B : Type 0} (p : B → Bool) (f : A → B) (l : List A) → any p (map f l) ≡ any (λ x. p (f x)) l
unfolding any
any-map p f [] = refl
any-map p f (x ∷ l) = ap (λ (b : Bool). p (f x) || b) (any-map p f l)

-- f is how far each group is; of the first j groups `best` is the nearest, at `least`, and `nans` says whether one distance is a NaN
module _ (g : ℕ) (f : ℕ → Float) where
  -- group j in place of the best, if it is nearer
  abbrev pub closer : ℕ → ℕ → ℕ
  closer j best = cond (lt (get_or (table g f) j nan) (get_or (table g f) best nan)) j best

  pub record Nearing (best : ℕ) (least : Float) (nans : Bool) (j : ℕ) : Type 0 where
    pub some : 0 < j
    pub most : j ≤ g
    pub below : best < g
    pub near : best ≡ in_turn closer j 0
    pub far : least ≡ f best
    pub told : nans ≡ any (λ k. is_nan (f k)) (range 0 j)

  pub nearing-first : {d : Float} {nans : Bool} → 0 < g → d ≡ f 0 → nans ≡ is_nan d → Nearing 0 d nans 1
  nearing-first {d} {nans} h e t = record {
    some = omega arith;
    most = omega arith;
    below = h;
    near = in_turn-next closer 0 0 (in_turn-none closer 0) (same (lt (get_or (table g f) 0 nan) (get_or (table g f) 0 nan)));
    far = e;
    told = t ∙ ap is_nan e ∙ ap (λ (b : Bool). b || is_nan (f 0)) (sym (range-any-none (λ k. is_nan (f k)) 0 0 (omega arith)))
        ∙ sym (any-more (λ k. is_nan (f k)) 0 refl);
  }
    where
      same : (b : Bool) → ◌≡◌ {A = ℕ} 0 (cond b 0 0)
      same true = refl
      same false = refl

  pub nearing-next : {best best' j : ℕ} {least least' d : Float} {nans nans' : Bool} → Nearing best least nans j → j < g → d ≡ f j
      → best' ≡ cond (lt d least) j best → least' ≡ cond (lt d least) d least → nans' ≡ (nans || is_nan d) → Nearing best' least' nans' (j + 1)
  nearing-next {best} {best'} {j} {least} {least'} {d} {nans} {nans'} n h e be le te =
      let test : lt d least ≡ lt (get_or (table g f) j nan) (get_or (table g f) best nan) =
      ap₂ lt (e ∙ sym (get_or-table f g j nan h)) (n.far ∙ sym (get_or-table f g best nan n.below)) in record {
        some = omega arith;
        most = omega arith;
        below = small (lt d least) be;
        near = in_turn-next closer j 0 n.near (be ∙ ap (λ (b : Bool). cond b j best) test);
        far = le ∙ both (lt d least) ∙ ap f (sym be);
        told = te ∙ ap₂ (λ (a b : Bool). a || b) n.told (ap is_nan e) ∙ sym (any-more (λ k. is_nan (f k)) j refl);
      }
    where
      small : (b : Bool) → best' ≡ cond b j best → best' < g
      small true q = omega arith
      small false q = omega (arith, n.below)

      both : (b : Bool) → cond b d least ≡ f (cond b j best)
      both true = e
      both false = n.far

  pub nearing-all : {best j : ℕ} {least : Float} {nans : Bool} → Nearing best least nans j → g ≤ j → (best ≡ nearest_of (table g f)) × (nans ≡ any is_nan (table g f))
  unfolding nearest_of
  nearing-all {best} {j} {least} {nans} n h =
      let done : j ≡ g = omega (arith, n.most) in
      let long : j ≡ length (table g f) = done ∙ sym (length-table f g) in (
        n.near ∙ ap (λ (k : ℕ). in_turn closer k 0) long,
        n.told ∙ ap (λ (k : ℕ). any (λ i. is_nan (f i)) (range 0 k)) done
            ∙ sym (ap (any is_nan) (table-range f g) ∙ any-map is_nan f (range 0 g)),
      )
