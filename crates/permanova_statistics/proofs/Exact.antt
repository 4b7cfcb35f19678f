-- The exact case: with weights 1 and whole distances up to 1,000 the pair sums that location divides are the whole-number sums (`exact-sums`).
use Rattle.lists.proofs.Base.{◌≡◌, refl, sym, ap, ◌∙◌, subst, ⊎_elim, Bool, true, false, ◌&&◌, List, ℕ, ◌+◌, ◌*◌}
use Rattle.lists.proofs.Base.{◌^◌, ◌<◌, ◌≤◌, arith, leb-true, not-false, length, get_or, List·get_or-eq-default}
use native.Mathlib.Nat.{one-mul, mul-le-mul}
use lib.Dec.{T, leb, lit≤}
use lib.Ieee.{Float, nan, binary64, eq, of_bits, of_int, to_unsigned}
use Rattle.float.specs.{Floats.◌⊗◌, Floats.◌⊘◌, Floats.num, Floats.1·0, Floats.smallest_normal, Order.larger}
use Rattle.float.proofs.Whole.{mul-of_nat}
use Rattle.lists.specs.{Ranges.range, Filters.any, Filters.pairs, Numbers.sumℕ, Numbers.members, Numbers.in_group, Sums.sum⁻, Rows.entry}
use Rattle.lists.proofs.{Truths.and_both, Truths.or-neither, Truths.order, Ranges.length-range, Ranges.table-ext}
use Rattle.lists.proofs.Filters.{length-filter, count_if-below}
use Rattle.lists.proofs.{Members.member-get_or, Members.member-range, Members.filter-member, Members.any-fails, Parts.get_or-map-in}
use Rattle.lists.proofs.Rows.{entry-grid, cell_below}
use Rattle.outcome.specs.Outcome as outcome
use Rattle.outcome.specs.Refusals.{first}
use Rattle.lot.specs.{Lot.Lot, Kept.kept, Kept.kept_labels, Kept.group_labels, Kept.kept_count, Kept.group_count, Lines.test_lines}
use Rattle.lot.proofs.{AcceptedLots.Passes, AcceptedLots.passes, Inserts.length-upward, Samples.kept-below, Samples.kept-few, Samples.length-kept_labels}
use Rattle.permanova_sums.specs.Squares.{square_at, weight_at, pair_term_at, pair_terms, weights_of, pair_terms_of}
use Rattle.permanova_sums.specs.PairSums.{rows_sum, pair_sum}
use Rattle.permanova_sums.proofs.WholeSums.{Valued, valued, square-whole, ones-whole, pairs-few, pairs-whole, rows_whole}
use Rattle.permanova_location.specs.Location.{total, within, group_within, group_weight}
use Rattle.permanova_statistics.specs.Statistics.{total_of, within_of}
use Rattle.permanova_statistics.specs.Exact.{most, whole_of, not_whole, not_one, inexact, whole_square, whole_total, whole_within, Equals, Exact, ExactSums}

-- ---- a distance, and a weight

-- it is its whole number, and up to 1,000
is_whole : (d : Float) → not_whole d ≡ false → Valued d (whole_of d) × (whole_of d ≤ most)
is_whole d e =
    let r = and_both (eq d (num (whole_of d))) (leb (whole_of d) most) (not-false _ e) in
    let low : whole_of d ≤ most = leb-true (whole_of d) most r.1 in (valued d (whole_of d) (omega arith) (subst T (sym r.0) tt), low)

whole-at : (l : List Float) (i : ℕ) → any not_whole l ≡ false → i < length l → Valued (get_or l i nan) (whole_of (get_or l i nan)) × (whole_of (get_or l i nan) ≤ most)
whole-at l i e h = is_whole (get_or l i nan) (any-fails not_whole l e (get_or l i nan) (member-get_or l i nan h))

low-at : (l : List Float) (n a b : ℕ) → any not_whole l ≡ false → whole_of (entry n l a b) ≤ most
unfolding entry
low-at l n a b e =
    let none : whole_of nan ≤ most = unfold to_unsigned in lit≤ tt in
    let i = a * n + b in
    ⊎_elim (λ past. subst (λ (d : Float). whole_of d ≤ most) (sym (List·get_or-eq-default l nan past)) none) (λ h. (whole-at l i e h).1) (order (length l) i)

is_one : (w : Float) → eq w 1·0 ≡ true → Valued w 1
is_one w e = valued w 1 (lit≤ tt) (unfold of_bits of_int in subst T (sym e) tt)

one_at : (weighted : Bool) (l : List Float) (i : ℕ) → (weighted && any not_one l) ≡ false → (weighted ≡ true → i < length l) → Valued (weight_at weighted l i) 1
unfolding weight_at
one_at true l i e h = is_one (get_or l i nan) (not-false _ (any-fails not_one l e (get_or l i nan) (member-get_or l i nan (h refl))))
one_at false l i e h = is_one 1·0 (unfold eq of_bits in refl)

-- ---- the terms of an accepted lot

module _ (lot : Lot) (short beyond : Bool) (passed : first (test_lines lot short beyond) ≡ outcome.passed) (exact : inexact lot ≡ false) where
  abbrev ks : List ℕ
  ks = kept lot.labels

  abbrev m : ℕ
  m = kept_count lot.labels

  abbrev cell : ℕ → ℕ → ℕ
  cell a b = get_or ks a 0 * lot.n + get_or ks b 0

  known : Passes lot short beyond
  known = passes lot short beyond passed

  apart : (any not_whole lot.distances ≡ false) × ((lot.weighted && any not_one lot.weights) ≡ false)
  unfolding inexact
  apart = or-neither _ _ exact

  few : (m ≤ 256) × (2 ≤ m)
  unfolding kept_count group_count group_labels
  few = (
    omega (arith, known.few, known.fits.labels_fit, kept-few lot.labels),
    omega (arith, known.groups, length-upward (kept_labels lot.labels), length-kept_labels lot.labels),
  )

  sample : (a n : ℕ) → n ≡ lot.n → a < m → get_or ks a 0 < n
  unfolding kept_count
  sample a n e h = omega (arith, known.fits.labels_fit, kept-below lot.labels a h)

  weight : (a : ℕ) → a < m → Valued (get_or (weights_of lot) a nan) 1
  unfolding kept_count weights_of
  weight a h = subst (λ (w : Float). Valued w 1) (sym (get_or-map-in (weight_at lot.weighted lot.weights) ks a nan 0 h))
      (one_at lot.weighted lot.weights (get_or ks a 0) apart.1 (λ g. sample a (length lot.weights) (known.fits.weights_fit g) h))

  square-low : (a b : ℕ) → whole_square lot a b ≤ most * most
  unfolding whole_square
  square-low a b = mul-le-mul (low-at lot.distances lot.n _ _ apart.0) (low-at lot.distances lot.n _ _ apart.0)

  square : (a b : ℕ) → a < m → b < m → square_at lot.distances lot.n ks a b ≡ num (whole_square lot a b)
  unfolding square_at whole_square entry
  square a b h g =
      let inside : cell a b < length lot.distances = omega (arith, known.fits.distances_fit, cell_below lot.n lot.n _ _ (sample a lot.n refl h) (sample b lot.n refl g)) in
      square-whole (get_or lot.distances (cell a b) nan) _ (whole-at lot.distances (cell a b) apart.0 inside).0

  term : (a b : ℕ) → a < m → b < m → entry m (pair_terms_of lot) a b ≡ num (whole_square lot a b)
  unfolding pair_terms_of pair_terms pair_term_at
  term a b h g = entry-grid m m (pair_term_at lot.distances lot.n ks (weights_of lot)) a b h g
      ∙ (λ i. ones-whole _ _ (weight a h) (weight b g) i ⊗ square a b h g i)
      ∙ mul-of_nat binary64 1 (whole_square lot a b) (lit≤ tt) (omega (arith, square-low a b)) ∙ ap num (one-mul (whole_square lot a b))

  -- ---- the sums

  bound : 256 * 256 * (most * most) ≤ 2 ^ 36
  bound = omega arith

  sum-few : (xs : List ℕ) → length xs ≤ 256 → sumℕ (pairs (whole_square lot) xs) ≤ 2 ^ 36
  sum-few xs h = omega (arith, bound, pairs-few (whole_square lot) (most * most) square-low xs h)

  rows-exact : Equals (rows_sum (pair_terms_of lot) m) (whole_total lot)
  unfolding whole_total
  rows-exact = record {
    same = rows_whole (pair_terms_of lot) m (whole_square lot) (most * most) few.0 (omega (arith, bound)) square-low term few.1;
    few = sum-few (range 0 m) (omega (arith, length-range 0 m, few.0));
  }

  group-few : (way : List ℕ) (j : ℕ) → length (members way m j) ≤ 256
  unfolding members
  group-few way j = omega (arith, length-filter (in_group way j) (range 0 m), count_if-below (in_group way j) (range 0 m), length-range 0 m, few.0)

  group-exact : (way : List ℕ) (j : ℕ) → Equals (pair_sum (pair_terms_of lot) m (members way m j)) (whole_within lot way j)
  unfolding whole_within members
  group-exact way j = record {
    same = pairs-whole (pair_terms_of lot) m (whole_square lot) (most * most) few.0 (omega (arith, bound)) square-low term (members way m j) (group-few way j)
        (λ x mem. member-range m x (filter-member (in_group way j) (range 0 m) x mem).1);
    few = sum-few (members way m j) (group-few way j);
  }

  divided : List ℕ → ℕ → Float → Float
  divided way j s = s ⊘ larger (group_weight (weights_of lot) (members way m j)) smallest_normal

  exactly : Exact lot
  unfolding total_of total within_of within group_within divided
  exactly = record {
    rows = rows-exact;
    group = group-exact;
    total = ap (λ (s : Float). s ⊘ sum⁻ (weights_of lot)) rows-exact.same;
    within = λ way. ap sum⁻ (table-ext _ _ (group_count lot.labels) (λ j h. ap (divided way j) (group-exact way j).same));
  }

pub exact-sums : ExactSums
exact-sums = exactly
