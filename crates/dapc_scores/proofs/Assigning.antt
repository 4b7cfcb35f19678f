-- A sample more that is assigned. The invariant `Assigning`: i samples are, and with what is left the count of the right ones and the search for a NaN are whole.
use Rattle.lists.proofs.Base.{◌≡◌, refl, sym, ap, ap₂, subst, ◌∙◌, Bool, true, false, cond, ◌||◌, List, ◌∷◌}
use Rattle.lists.proofs.Base.{ℕ, ◌+◌, ◌<◌, ◌≤◌, arith, eq-eqb, ne_eqb, eqb, length, get_or, set, Float, is_nan}
use Rattle.float.specs.Floats.{◌⊖◌, ◌⊗◌}
use Rattle.lists.specs.{Ranges.range, Ranges.table, Filters.filter, Filters.count_if, Filters.any, Numbers.in_group, Sums.sum⁻, Rows.entry}
use Rattle.lists.proofs.{Ranges.get_or-table, Ranges.table-ext, Filters.filter-step-yes, Filters.filter-step-no, Filters.filter-done}
use Rattle.lists.proofs.{Writes.Writing, Writes.writing-none, Writes.writing-next, Writes.writing-table, Members.filter-member, Members.member-range}
use Rattle.limits.specs.Limits.{none}
use Rattle.lists.proofs.{Counts.count-cong, Grids.first-row, Grids.part-entry, Truths.or-false}
use Rattle.dapc_scatter.specs.Means.{grouped}
use Rattle.dapc_scatter.proofs.{Groups.has-group, Groups.has-none, MeanSums.has_group, MeanSums.front}
use Rattle.dapc_scores.specs.Assigned.{gap, gaps, nearest_of, assigned_of, unordered, right_of}

-- the distances from row i, which is lent by itself
gaps-row : (axes g : ℕ) (scores cen : List Float) (i : ℕ) → gaps axes g (front axes i axes scores) cen 0 ≡ gaps axes g scores cen i
unfolding gaps gap
gaps-row axes g scores cen i =
    let far : Float → ℕ → ℕ → Float = λ u j a. u ⊖ entry axes cen j a in
    table-ext (gap axes (front axes i axes scores) cen 0) (gap axes scores cen i) g (λ j _.
    ap sum⁻ (table-ext (λ a. far (entry axes (front axes i axes scores) 0 a) j a ⊗ far (entry axes (front axes i axes scores) 0 a) j a)
    (λ a. far (entry axes scores i a) j a ⊗ far (entry axes scores i a) j a) axes
    (λ a h. ap (λ (u : Float). far u j a ⊗ far u j a) (first-row axes (front axes i axes scores) a ∙ part-entry axes i axes scores a h))))

module _ (axes g : ℕ) (groups : List ℕ) (scores cen : List Float) (found₀ : List ℕ) where
  -- the group found for sample i, whether it is its own, and whether a distance of it is a NaN
  abbrev pub placed : ℕ → ℕ
  placed i = cond (in_group groups none i) none (nearest_of (gaps axes g scores cen i))

  abbrev pub own : ℕ → Bool
  own i = eqb (placed i) (get_or groups i 0)

  abbrev pub odd : ℕ → Bool
  odd i = any is_nan (gaps axes g scores cen i)

  -- the samples from i on that have a group
  abbrev pub left : ℕ → List ℕ
  left i = filter (has_group groups) (range i (length groups))

  pub record Assigning (found : List ℕ) (right : ℕ) (nans : Bool) (i : ℕ) : Type 0 where
    pub written : Writing placed found₀ found i
    pub few : right ≤ i
    pub counted : right + count_if own (left i) ≡ count_if own (left 0)
    pub told : (nans || any odd (left i)) ≡ any odd (left 0)

  pub assigning-none : Assigning found₀ 0 false 0
  assigning-none = record { written = writing-none placed found₀; few = omega arith; counted = omega arith; told = refl }

  module _ (long : length found₀ ≡ length groups) (found : List ℕ) {found' : List ℕ} {right right' i j : ℕ} {nans nans' : Bool} (a : Assigning found right nans i)
      (h : i < length groups) (e : j ≡ get_or groups i 0) where
    pub assigning-pass : j ≡ none → found' ≡ set found i none → right' ≡ right → nans' ≡ nans → Assigning found' right' nans' (i + 1)
    assigning-pass q put re te =
        let skip : left i ≡ left (i + 1) = filter-step-no (has_group groups) i (length groups) h (has-none groups i e q) in
        let here : in_group groups none i ≡ true = eq-eqb (get_or groups i 0) none (sym e ∙ q) in
        record {
          written = subst (λ (l : List ℕ). Writing placed found₀ l (i + 1)) (sym put)
              (writing-next placed found₀ a.written (omega arith) (ap (λ (b : Bool). cond b none (nearest_of (gaps axes g scores cen i))) (sym here)));
          few = omega (arith, a.few);
          counted = omega (arith, a.counted, ap (count_if own) skip);
          told = ap₂ (λ (b c : Bool). b || c) te (ap (any odd) (sym skip)) ∙ a.told;
        }

    pub assigning-next : {k : ℕ} {b : Bool} → (j ≡ none → ⊥) → k ≡ nearest_of (gaps axes g (front axes i axes scores) cen 0) →
        b ≡ any is_nan (gaps axes g (front axes i axes scores) cen 0)
        → found' ≡ set found i k → right' ≡ right + cond (eqb k j) 1 0 → nans' ≡ (nans || b) → Assigning found' right' nans' (i + 1)
    unfolding count_if any
    assigning-next {k} {b} ne near nan put re te =
        let take-it : left i ≡ i ∷ left (i + 1) = filter-step-yes (has_group groups) i (length groups) h (has-group groups i e ne) in
        let here : in_group groups none i ≡ false = ne_eqb (get_or groups i 0) none (λ q. ne (e ∙ q)) in
        let is : k ≡ placed i = near ∙ ap nearest_of (gaps-row axes g scores cen i) ∙ ap (λ (t : Bool). cond t none (nearest_of (gaps axes g scores cen i))) (sym here) in
        record {
          written = subst (λ (l : List ℕ). Writing placed found₀ l (i + 1)) (sym put) (writing-next placed found₀ a.written (omega arith) is);
          few = small (eqb k j) re;
          counted = omega (arith, a.counted, ap (count_if own) take-it, ap₂ {C = ℕ} (λ (s t : ℕ). cond (eqb s t) 1 0) is e);
          told =
              ap (λ (t : Bool). t || any odd (left (i + 1))) (te ∙ ap (λ (t : Bool). nans || t) (nan ∙ ap (any is_nan) (gaps-row axes g scores cen i)))
              ∙ assoc nans (odd i) (any odd (left (i + 1))) ∙ ap (λ (l : List ℕ). nans || any odd l) (sym take-it)
              ∙ a.told;
        }
      where
        small : (t : Bool) → right' ≡ right + cond t 1 0 → right' ≤ i + 1
        small true q = omega (arith, a.few)
        small false q = omega (arith, a.few)

        assoc : (x y z : Bool) → ((x || y) || z) ≡ (x || (y || z))
        assoc true y z = refl
        assoc false y z = refl

  pub assigning-all : (found : List ℕ) {right i : ℕ} {nans : Bool} → length found₀ ≡ length groups → Assigning found right nans i → length groups ≤ i
      → (found ≡ assigned_of (length groups) axes g groups scores cen) × (right ≡ right_of groups found) × (nans ≡ unordered axes g groups scores cen)
  unfolding assigned_of right_of unordered grouped count_if any
  assigning-all found {right} {i} {nans} long a h =
      let none_left : left i ≡ _ = filter-done (has_group groups) i (length groups) h in
      let is : found ≡ table (length groups) placed = writing-table placed found₀ a.written long h in (
        is,
        omega (
          arith,
          a.counted,
          ap (count_if own) none_left,
          count-cong own (λ k. eqb (get_or found k 0) (get_or groups k 0)) (left 0)
              (λ k m. same k (member-range (length groups) k (filter-member (has_group groups) (range 0 (length groups)) k m).1) is),
        ),
        sym (or-false nans) ∙ ap (λ (l : List ℕ). nans || any odd l) (sym none_left) ∙ a.told,
      )
    where
      same : (k : ℕ) → k < length groups → found ≡ table (length groups) placed → own k ≡ eqb (get_or found k 0) (get_or groups k 0)
      same k z is = ap (λ (t : ℕ). eqb t (get_or groups k 0)) (sym (ap (λ (l : List ℕ). get_or l k 0) is ∙ get_or-table placed (length groups) k 0 z))
