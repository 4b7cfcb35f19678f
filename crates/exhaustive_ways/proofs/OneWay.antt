-- There is always a way, and there is one alone exactly where the samples of each stratum have one label: where no stratum informs.
-- Over plain lists of strata and labels, then for a lot.
use Rattle.lists.proofs.Base.{◌≡◌, refl, sym, ap, ◌∙◌, Bool, false, not, ℕ, zero, suc, ◌*◌, ◌≤◌, ◌<◌, suc-le-suc, arith, ℕ_discrete}
use Rattle.lists.proofs.Base.{eqb, ltb, eqb-true, eq-eqb, not-false, length, get_or}
use mathlib.Core.List.{List, [], ◌∷◌, Memᴰ as Member}
use native.Mathlib.Nat.{eq_of_mul-eq-mul_right}
use Rattle.lists.specs.{Ranges.range, Filters.count_if, Numbers.how_many, Numbers.in_group, Numbers.members}
use Rattle.lists.proofs.{Truths.both_ways, Counts.count_no, Counts.any-count}
use Rattle.lists.proofs.Members.{member-range, range-member, member_filter, filter-member, none_any, any-fails}
use Rattle.lot.specs.{Lot.Lot, Kept.groups, Kept.kept_count, Strata.strata, Strata.informs, Strata.informative, Strata.informative_count, Way.tally}
use Rattle.lot.proofs.Tallies.{δ-same, δ-other, mark-same, mark-stratum, mark-label}
use Rattle.lot.proofs.{Samples.length-groups, GroupsAndStrata.length-strata}
use Rattle.exhaustive_ways.specs.Ways.{way_count_of, way_count}
use Rattle.exhaustive_ways.proofs.DealtWays.{how_many-cons}
use Rattle.exhaustive_ways.proofs.WayCounts.{mark-most, tally-most, count-more, count-no-less, count-rest, count_none}

-- all samples of the stratum s have the label j
abbrev Have : List ℕ → List ℕ → ℕ → ℕ → Type 0
Have ss labels s j = (i : ℕ) → i < length ss → get_or ss i 0 ≡ s → get_or labels i 0 ≡ j

-- any two samples of one stratum have one label
abbrev pub Alike : List ℕ → List ℕ → Type 0
Alike ss labels = (a b : ℕ) → a < length ss → b < length ss → get_or ss a 0 ≡ get_or ss b 0 → get_or labels a 0 ≡ get_or labels b 0

-- ---- a label's count is the stratum's size exactly where all of the stratum have it

tally-have : (ss labels : List ℕ) (s j : ℕ) → length labels ≡ length ss → tally ss labels s j ≡ how_many s ss → Have ss labels s j
unfolding tally
tally-have [] labels s j fits e i h at = absurd (omega arith)
tally-have (s₀ ∷ ss) [] s j fits e i h at = absurd (omega arith)
tally-have (s₀ ∷ ss) (j₀ ∷ l) s j fits e zero h at = elim (ℕ_discrete j j₀) [
  | yes q ↦ sym q
  | no d ↦ absurd (omega (arith, mark-label s₀ j₀ s j d, δ-same s s₀ (sym at), how_many-cons s s₀ ss, tally-most ss l s j))
]
tally-have (s₀ ∷ ss) (j₀ ∷ l) s j fits e (suc i) h at =
    tally-have ss l s j (omega arith) (omega (arith, mark-most s₀ j₀ s j, how_many-cons s s₀ ss, tally-most ss l s j)) i (omega arith) at

have-tally : (ss labels : List ℕ) (s j : ℕ) → length labels ≡ length ss → Have ss labels s j → tally ss labels s j ≡ how_many s ss
unfolding tally how_many count_if
have-tally [] [] s j fits all = refl
have-tally [] (j₀ ∷ l) s j fits all = absurd (omega arith)
have-tally (s₀ ∷ ss) [] s j fits all = absurd (omega arith)
have-tally (s₀ ∷ ss) (j₀ ∷ l) s j fits all =
    let rest = have-tally ss l s j (omega arith) (λ i h. all (suc i) (suc-le-suc h)) in
    elim (ℕ_discrete s s₀) [
      | yes e ↦ omega (arith, rest, how_many-cons s s₀ ss, δ-same s s₀ e, mark-same s₀ j₀ s j e (sym (all 0 (omega arith) (sym e))))
      | no d ↦ omega (arith, rest, how_many-cons s s₀ ss, δ-other s s₀ d, mark-stratum s₀ j₀ s j d)
    ]

-- ---- M of samples with strata and labels

pub some-way : (ss labels : List ℕ) → length labels ≡ length ss → 1 ≤ way_count_of ss labels
some-way ss labels fits = omega (arith, count-rest (length ss) ss labels fits, count_none (length ss) ss labels refl)

-- one way with one sample more: one of the rest, and all of the sample's stratum have its label
module _ (s j : ℕ) (ss labels : List ℕ) (fits : length labels ≡ length ss) (one : way_count_of (s ∷ ss) (j ∷ labels) ≡ 1) where
  one-rest : way_count_of ss labels ≡ 1
  one-rest = omega (arith, some-way ss labels fits, count-no-less s j ss labels fits)

  one-have : Have (s ∷ ss) (j ∷ labels) s j
  one-have = tally-have (s ∷ ss) (j ∷ labels) s j (ap suc fits) (omega (arith, rw (one, one-rest) at (count-more s j ss labels fits)))

pub one_alike : (ss labels : List ℕ) → length labels ≡ length ss → way_count_of ss labels ≡ 1 → Alike ss labels
one_alike [] labels fits one a b p q e = absurd (omega arith)
one_alike (s ∷ ss) [] fits one a b p q e = absurd (omega arith)
one_alike (s ∷ ss) (j ∷ l) fits one zero b p q e = sym (one-have s j ss l (omega arith) one b q (sym e))
one_alike (s ∷ ss) (j ∷ l) fits one (suc a) zero p q e = one-have s j ss l (omega arith) one (suc a) p e
one_alike (s ∷ ss) (j ∷ l) fits one (suc a) (suc b) p q e =
    one_alike ss l (omega arith) (one-rest s j ss l (omega arith) one) a b (omega arith) (omega arith) e

pub alike-one : (ss labels : List ℕ) → length labels ≡ length ss → Alike ss labels → way_count_of ss labels ≡ 1
alike-one [] labels fits alike = count_none 0 [] labels refl
alike-one (s ∷ ss) [] fits alike = absurd (omega arith)
alike-one (s ∷ ss) (j ∷ l) fits alike =
    let n = how_many s (s ∷ ss) in
    let fit : length l ≡ length ss = omega arith in
    let rest = alike-one ss l fit (λ a b p q. alike (suc a) (suc b) (suc-le-suc p) (suc-le-suc q)) in
    let whole = have-tally (s ∷ ss) (j ∷ l) s j fits (λ i h. alike i 0 h (omega arith)) in
    eq_of_mul-eq-mul_right n (omega (arith, how_many-cons s s ss, δ-same s s refl)) (way_count_of (s ∷ ss) (j ∷ l)) 1
    (ap (λ (t : ℕ). way_count_of (s ∷ ss) (j ∷ l) * t) (sym whole) ∙ count-more s j ss l fit ∙ ap (λ (m : ℕ). m * n) rest)

-- ---- a stratum informs where two of its samples differ

module _ (ss labels : List ℕ) (m : ℕ) (many : length ss ≡ m) where
  alike-informs : Alike ss labels → (s : ℕ) → informs ss labels m s ≡ false
  unfolding informs members
  alike-informs alike s =
      let of : (i : ℕ) → Member i (members ss m s) → (i < length ss) × (get_or ss i 0 ≡ s) =
      λ i l. let r = filter-member (in_group ss s) (range 0 m) i l in (omega (arith, member-range m i r.1), eqb-true _ s r.0) in
      none_any _ (members ss m s) (λ a k. none_any _ (members ss m s) (λ b l.
      ap not (eq-eqb _ _ (alike a b (of a k).0 (of b l).0 ((of a k).1 ∙ sym (of b l).1)))))

  informs-alike : ((k : ℕ) → k < m → informs ss labels m (get_or ss k 0) ≡ false) → Alike ss labels
  unfolding informs members
  informs-alike none a b p q e =
      let part = members ss m (get_or ss a 0) in
      let in-part : (i : ℕ) → i < length ss → get_or ss i 0 ≡ get_or ss a 0 → Member i part =
      λ i h at. member_filter (in_group ss (get_or ss a 0)) (range 0 m) i (range-member m i (omega arith)) (eq-eqb _ _ at) in
      let others = any-fails _ part (none a (omega arith)) a (in-part a p refl) in
      eqb-true _ _ (not-false _ (any-fails (λ b. not (eqb (get_or labels a 0) (get_or labels b 0))) part others b (in-part b q (sym e))))

-- ---- M of a lot

module _ (lot : Lot) where
  -- how many samples are kept
  abbrev m : ℕ
  m = kept_count lot.labels

  -- the stratum s holds two kept labels
  abbrev informing : ℕ → Bool
  informing s = informs (strata lot) (groups lot.labels) m s

  pub groups-fit : length (groups lot.labels) ≡ length (strata lot)
  unfolding kept_count
  groups-fit = length-groups lot.labels ∙ sym (length-strata lot)

  pub ways-some : 1 ≤ way_count lot
  unfolding way_count
  ways-some = some-way (strata lot) (groups lot.labels) groups-fit

  pub one-way-groups : way_count lot ≡ 1 → Alike (strata lot) (groups lot.labels)
  unfolding way_count
  one-way-groups = one_alike (strata lot) (groups lot.labels) groups-fit

  pub one-way-alike : way_count lot ≡ 1 → (s : ℕ) → informing s ≡ false
  one-way-alike one = alike-informs (strata lot) (groups lot.labels) m (length-strata lot) (one-way-groups one)

  none-one-way : ((k : ℕ) → k < m → informing (get_or (strata lot) k 0) ≡ false) → way_count lot ≡ 1
  unfolding way_count
  none-one-way none =
      alike-one (strata lot) (groups lot.labels) groups-fit (informs-alike (strata lot) (groups lot.labels) m (length-strata lot) none)

  pub alike-one-way : ((s : ℕ) → informing s ≡ false) → way_count lot ≡ 1
  alike-one-way none = none-one-way (λ k _. none (get_or (strata lot) k 0))

  -- M = 1 EXACTLY WHERE NO STRATUM HOLDS TWO KEPT LABELS.
  pub one-way-informs : eqb (way_count lot) 1 ≡ eqb (informative_count lot) 0
  unfolding informative_count informative
  one-way-informs =
      let p : ℕ → Bool = λ k. informing (get_or (strata lot) k 0) in
      both_ways (eqb (way_count lot) 1) (eqb (informative_count lot) 0)
      (λ e. eq-eqb _ 0 (count_no p (range 0 m) (λ k. one-way-alike (eqb-true _ 1 e) (get_or (strata lot) k 0))))
      (λ e. let none = any-count p (range 0 m) ∙ ap (ltb 0) (eqb-true (informative_count lot) 0 e) in
      eq-eqb _ 1 (none-one-way (λ k h. any-fails p (range 0 m) none k (range-member m k h))))
