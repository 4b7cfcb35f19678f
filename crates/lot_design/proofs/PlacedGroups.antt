-- The group of each sample: put sample by sample on those that are kept, it is the group of its label, or none.
use Rattle.lists.proofs.Base.{◌≡◌, refl, sym, ap, subst, ◌∙◌, Bool, true, false, cond, ◌||◌, true≢false, ℕ, zero, suc, ◌<◌, ◌≤◌, arith, ℕ_discrete}
use Rattle.lists.proofs.Base.{eq-eqb, ne_eqb, ltb-true, eqb, ext_get_or, length-take-le, take_at, get_or-set_same, get_or-set_other}
use mathlib.Core.List.{List, ◌++◌, map, Memᴰ as Member}
use lib.ListN.{length, get_or, set, take, drop, replicate, length-set, length-map, length-append, length-replicate, get_or-map, get_or-replicate}
use Rattle.lists.specs.{Ranges.range, Loops.in_turn, Filters.filter, Filters.any, Filters.first_at, Numbers.contains, Numbers.position}
use Rattle.lists.specs.inner.Numbers.{Below}
use Rattle.lists.proofs.{Loops.length-in_turn, Parts.get_or-either, Parts.take-replicate, Searches.any-first, Searches.found-passes}
use Rattle.lists.proofs.Members.{range-member, member-get_or, member_filter, filter-member, member-any, contains-member}
use Rattle.lists.proofs.Upward.{upward-member, member-upward}
use Rattle.limits.specs.Limits.{none}
use Rattle.lot.specs.Kept.{twice, kept, gathered, kept_labels, group_labels, groups, group_each}
use Rattle.lot.proofs.{Samples.kept-below, GroupsAndStrata.kept-twice, GroupsAndStrata.twice-kept}
use Rattle.lot_design.specs.inner.Groups.{put, placed}

-- ---- what stands at a place after the first k writes

-- one of the first k of ks is i
among : List ℕ → ℕ → ℕ → Bool
among ks zero i = false
among ks (suc k) i = eqb i (get_or ks k 0) || among ks k i

module _ (n : ℕ) (ks gs : List ℕ) (value : ℕ → ℕ) (below : Below n ks) (is : (k : ℕ) → k < length ks → get_or gs k 0 ≡ value (get_or ks k 0)) where
  after : ℕ → List ℕ
  after k = in_turn (λ k l. set l (get_or ks k 0) (get_or gs k 0)) k (replicate n none)

  length-after : (k : ℕ) → length (after k) ≡ n
  unfolding after
  length-after k = length-in_turn _ (λ k l. length-set l (get_or ks k 0) (get_or gs k 0)) k (replicate n none) ∙ length-replicate n none

  written : (k i : ℕ) → k ≤ length ks → i < n → get_or (after k) i 0 ≡ cond (among ks k i) (value i) none
  unfolding after in_turn among
  written zero i h b = get_or-replicate n i none 0 b
  written (suc k) i h b = elim (ℕ_discrete i (get_or ks k 0)) [
    | yes e ↦ ap (λ (j : ℕ). get_or (set (after k) (get_or ks k 0) (get_or gs k 0)) j 0) e
        ∙ get_or-set_same (after k) (get_or ks k 0) (get_or gs k 0) 0 (omega (arith, length-after k, below k (omega arith))) ∙ is k (omega arith)
        ∙ ap value (sym e)
        ∙ ap (λ (t : Bool). cond (t || among ks k i) (value i) none) (sym (eq-eqb i (get_or ks k 0) e))
    | no e ↦ get_or-set_other (after k) (get_or ks k 0) i (get_or gs k 0) 0 e ∙ written k i (omega arith) b
        ∙ ap (λ (t : Bool). cond (t || among ks k i) (value i) none) (sym (ne_eqb i (get_or ks k 0) e))
  ]

  -- any list that has the values at the places of ks, and none elsewhere
  placed-is : (each : List ℕ) → length each ≡ n → ((i : ℕ) → i < n → get_or each i 0 ≡ cond (among ks (length ks) i) (value i) none) → each ≡ placed n ks gs
  unfolding placed after
  placed-is each long at = ext_get_or 0 each (after (length ks)) (long ∙ sym (length-after (length ks)))
      (λ i h. let b : i < n = omega arith in at i b ∙ sym (written (length ks) i (omega arith) b))

-- ---- the places that pass a test

or-true : (a b : Bool) → a ≡ true → (a || b) ≡ true
or-true a b e = rw e

or_later : (a b : Bool) → b ≡ true → (a || b) ≡ true
or_later true b e = refl
or_later false b e = e

or-either : (a b : Bool) → (a || b) ≡ true → (a ≡ false → b ≡ true)
or-either true b e f = absurd (true≢false f)
or-either false b e f = e

among-at : (ks : List ℕ) (i j k : ℕ) → j < k → eqb i (get_or ks j 0) ≡ true → among ks k i ≡ true
unfolding among
among-at ks i j zero h e = absurd (omega arith)
among-at ks i j (suc k) h e = elim (ℕ_discrete j k) [
  | yes s ↦ or-true (eqb i (get_or ks k 0)) (among ks k i) (ap (λ (j : ℕ). eqb i (get_or ks j 0)) (sym s) ∙ e)
  | no s ↦ or_later (eqb i (get_or ks k 0)) (among ks k i) (among-at ks i j k (omega arith) e)
]

among-member : (ks : List ℕ) (i k : ℕ) → k ≤ length ks → among ks k i ≡ true → Member i ks
unfolding among
among-member ks i zero h e = absurd (true≢false (sym e))
among-member ks i (suc k) h e = elim (ℕ_discrete i (get_or ks k 0)) [
  | yes s ↦ subst (λ (j : ℕ). Member j ks) (sym s) (member-get_or ks k 0 (omega arith))
  | no s ↦ among-member ks i k (omega arith) (or-either (eqb i (get_or ks k 0)) (among ks k i) e (ne_eqb i (get_or ks k 0) s))
]

member-among : (ks : List ℕ) (i : ℕ) → Member i ks → among ks (length ks) i ≡ true
member-among ks i m =
    let some : any (eqb i) ks ≡ true = member-any (eqb i) ks i m (eq-eqb i i refl) in
    let early : first_at (eqb i) ks < length ks = ltb-true _ _ (sym (any-first (eqb i) ks) ∙ some) in
    among-at ks i (first_at (eqb i) ks) (length ks) early (found-passes (eqb i) ks 0 early)

among-kept : (p : ℕ → Bool) (n i : ℕ) → i < n → among (filter p (range 0 n)) (length (filter p (range 0 n))) i ≡ p i
among-kept p n i h = by (among (filter p (range 0 n)) (length (filter p (range 0 n))) i) (p i) refl refl
  where
    by : (a b : Bool) → among (filter p (range 0 n)) (length (filter p (range 0 n))) i ≡ a → p i ≡ b → a ≡ b
    by true b e f = sym (filter-member p (range 0 n) i (among-member (filter p (range 0 n)) i (length (filter p (range 0 n))) (omega arith) e)).0 ∙ f
    by false true e f = sym e ∙ member-among (filter p (range 0 n)) i (member_filter p (range 0 n) i (range-member n i h) f)
    by false false e f = refl

-- ---- the group of each sample

module _ (labels : List ℕ) where
  -- a label names a group where two samples have it
  pub named-twice : (l : ℕ) → Member l labels → contains l (group_labels labels) ≡ twice labels l
  unfolding contains group_labels
  named-twice l m = by (contains l (group_labels labels)) (twice labels l) refl refl
    where
      by : (a b : Bool) → contains l (group_labels labels) ≡ a → twice labels l ≡ b → a ≡ b
      by true b e f = sym (kept-twice labels l (upward-member (kept_labels labels) l (contains-member l (group_labels labels) e))).0 ∙ f
      by false true e f = sym e ∙ member-any (eqb l) (group_labels labels) l (member-upward (kept_labels labels) l (twice-kept labels l f m)) (eq-eqb l l refl)
      by false false e f = refl

  abbrev group_of : ℕ → ℕ
  group_of l = cond (contains l (group_labels labels)) (position l (group_labels labels)) none

  pub length-each : length (group_each labels) ≡ length labels
  unfolding group_each
  length-each = length-map labels group_of

  pub each_at : (i : ℕ) → i < length labels → get_or (group_each labels) i 0 ≡ group_of (get_or labels i none)
  unfolding group_each
  each_at i h = get_or-either (map group_of labels) i 0 (group_of none) (omega (arith, length-map labels group_of)) ∙ get_or-map group_of labels i none

  -- the group of a sample that is kept is that of its label
  abbrev value : ℕ → ℕ
  value i = position (get_or labels i none) (group_labels labels)

  each-value : (i : ℕ) → i < length labels → get_or (group_each labels) i 0 ≡ cond (among (kept labels) (length (kept labels)) i) (value i) none
  unfolding kept
  each-value i h = each_at i h ∙ ap (λ (t : Bool). cond t (value i) none)
      (named-twice (get_or labels i none) (member-get_or labels i none h) ∙ sym (among-kept (λ i. twice labels (get_or labels i none)) (length labels) i h))

  -- the kept samples' groups in turn
  groups-at : (k : ℕ) → k < length (kept labels) → get_or (groups labels) k 0 ≡ value (get_or (kept labels) k 0)
  unfolding groups kept_labels gathered
  groups-at k h =
      let f : ℕ → ℕ = λ l. position l (group_labels labels) in
      let g : ℕ → ℕ = λ i. get_or labels i none in
      get_or-either (map f (map g (kept labels))) k 0 (f (g 0)) (omega (arith, length-map (map g (kept labels)) f, length-map (kept labels) g))
      ∙ get_or-map f (map g (kept labels)) k (g 0) ∙ ap f (get_or-map g (kept labels) k 0)

  pub each_placed : group_each labels ≡ placed (length labels) (kept labels) (groups labels)
  each_placed = placed-is (length labels) (kept labels) (groups labels) value (kept-below labels) groups-at (group_each labels) length-each each-value

-- ---- put on samples that have none, at the front of room for 256

module _ (n : ℕ) (few : n ≤ 256) (ks gs : List ℕ) {r : List ℕ} (is : r ≡ put ks gs (take n (replicate 256 none))) (same : length r ≡ length (take n (replicate 256 none))) where
  long : length r ≡ n
  long = same ∙ length-take-le n (replicate 256 none) few

  pub placed-fits : n ≤ length (r ++ drop n (replicate 256 none))
  placed-fits = omega (arith, length-append r (drop n (replicate 256 none)), long)

  pub placed-front : take n (r ++ drop n (replicate 256 none)) ≡ placed n ks gs
  unfolding placed
  placed-front = take_at r (drop n (replicate 256 none)) n long ∙ is ∙ ap (put ks gs) (take-replicate n 256 none few)
