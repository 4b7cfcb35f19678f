-- A way handed in as the observed one: every label is held by as many samples as before, so the same samples are kept, their labels are numbered alike,
-- the strata and those that inform are the same, and the groups are the way.
use mathlib.Core.Path.{◌≡◌, sym, ap, ap₂, ◌∙◌, fun_ext}
use Rattle.lists.proofs.Base.{Bool, true, not, ◌&&◌, cond, ℕ, ◌+◌, ◌<◌, arith, eqb, leb}
use mathlib.Core.List.{List, map, Memᴰ as Member}
use lib.ListN.{length, get_or, length-map, get_or-map}
use Rattle.lists.specs.{Ranges.range, Filters.filter, Filters.count_if, Numbers.how_many, Numbers.position}
use Rattle.lists.specs.inner.Numbers.{Below}
use Rattle.limits.specs.Limits.{none}
use Rattle.lot.specs.{Lot.Lot, Kept.twice, Kept.kept, Kept.gathered, Kept.kept_labels, Kept.group_labels, Kept.groups, Kept.kept_count}
use Rattle.lot.specs.Strata.{named, numbered, held_strata, strata, strata_count, informative, informative_count}
use Rattle.lot.specs.Way.{IsWay, relabelled, SameLot}
use Rattle.lists.proofs.Members.{below-member, member-how_many, how_many-member, filter-cong}
use Rattle.lists.proofs.{Counts.count-cong, Counts.count_map, Upward.upward-same}
use Rattle.lot.proofs.{Places.kept-labels, Samples.length-groups}
use Rattle.lot.proofs.GroupsAndStrata.{name, map_back, kept-twice, twice-kept, groups-below, name-twice, position-name, groups-named, strata-below, length-strata}
use Rattle.lot.proofs.Tallies.{tally-keeps, tally-below, count_same}
use Rattle.lot.proofs.{WaysOnSamples.length-on_kept, WaysOnSamples.filter-on_kept, WaysOnSamples.tests-on_kept, WaysOnSamples.count-on_kept, Informing.informs-same}

module _ (lot : Lot) (way : List ℕ) (is-way : IsWay lot way) where
  abbrev old : List ℕ
  old = lot.labels

  abbrev new : List ℕ
  new = (relabelled lot way).labels

  -- ---- the way has a group for each kept sample

  groups-fit : length (groups old) ≡ length (strata lot)
  unfolding kept_count
  groups-fit = length-groups old ∙ sym (length-strata lot)

  way-fits : length way ≡ length (strata lot)
  way-fits = is-way.labels_all ∙ sym (length-strata lot)

  pub way-below : Below (length (group_labels old)) way
  way-below = tally-below (strata lot) (groups old) way is-way.keeps_counts (length (group_labels old)) (groups-below old) way-fits

  below : (j : ℕ) → Member j way → j < length (group_labels old)
  below j m = below-member (length (group_labels old)) way j way-below m

  -- and a kept label for each label that is kept
  names-pass : (j : ℕ) → Member j way → twice old (name old j) ≡ true
  names-pass j m = name-twice old j (below j m)

  as_many : length way ≡ length (filter (twice old) old)
  as_many = way-fits ∙ sym groups-fit ∙ sym (length-map (groups old) (name old)) ∙ ap length (groups-named old ∙ kept-labels old)

  -- ---- every label is held by as many samples as before

  same-groups : (j : ℕ) → how_many j way ≡ how_many j (groups old)
  same-groups = tally-keeps (strata lot) (groups old) way is-way.keeps_counts (strata_count lot) (strata-below lot) groups-fit way-fits

  pub same-counts : (q : ℕ → Bool) → count_if q new ≡ count_if q old
  unfolding relabelled
  same-counts q = omega (
    arith,
    count-on_kept (twice old) (name old) old way names-pass as_many q,
    ap (count_if q) (groups-named old ∙ kept-labels old),
    count_map q (name old) way,
    count_map q (name old) (groups old),
    count_same (λ j. q (name old j)) (groups old) way same-groups (length (group_labels old)) (groups-below old) way-below,
  )

  same-how_many : (l : ℕ) → how_many l new ≡ how_many l old
  unfolding how_many
  same-how_many l = same-counts (eqb l)

  same-length : length new ≡ length old
  unfolding relabelled
  same-length = length-on_kept (twice old) (name old) (λ l. l) old way

  pub same-twice : twice new ≡ twice old
  unfolding twice
  same-twice = fun_ext (λ l. ap (λ (k : ℕ). not (eqb l none) && leb 2 k) (same-how_many l))

  -- ---- the same places are kept

  same_tests : map (twice old) new ≡ map (twice old) old
  unfolding relabelled
  same_tests = tests-on_kept (twice old) (name old) old way names-pass as_many

  same-test-at : (i : ℕ) → twice new (get_or new i none) ≡ twice old (get_or old i none)
  same-test-at i = ap (λ (t : ℕ → Bool). t (get_or new i none)) same-twice ∙ sym (get_or-map (twice old) new i none)
      ∙ ap (λ (bs : List Bool). get_or bs i (twice old none)) same_tests ∙ get_or-map (twice old) old i none

  same-kept : kept new ≡ kept old
  unfolding kept
  same-kept = ap (λ (n : ℕ). filter (λ i. twice new (get_or new i none)) (range 0 n)) same-length
      ∙ filter-cong _ _ (range 0 (length old)) (λ i m. same-test-at i)

  -- ---- the same labels, numbered alike

  pub none-new : (l : ℕ) → Member l new → Member l old
  none-new l m = how_many-member l old (omega (arith, same-how_many l, member-how_many l new m))

  none-gone : (l : ℕ) → Member l old → Member l new
  none-gone l m = how_many-member l new (omega (arith, same-how_many l, member-how_many l old m))

  kept-stays : (l : ℕ) → Member l (kept_labels new) → Member l (kept_labels old)
  kept-stays l m = let r = kept-twice new l m in twice-kept old l (ap (λ (t : ℕ → Bool). t l) (sym same-twice) ∙ r.0) (none-new l r.1)

  kept-comes : (l : ℕ) → Member l (kept_labels old) → Member l (kept_labels new)
  kept-comes l m = let r = kept-twice old l m in twice-kept new l (ap (λ (t : ℕ → Bool). t l) same-twice ∙ r.0) (none-gone l r.1)

  same-names : group_labels new ≡ group_labels old
  unfolding group_labels
  same-names = upward-same (kept_labels new) (kept_labels old) kept-stays kept-comes

  -- ---- the observed groups are the way

  -- the kept samples have its labels
  pub kept-way : kept_labels new ≡ map (name old) way
  unfolding relabelled
  kept-way = kept-labels new ∙ ap (λ (t : ℕ → Bool). filter t new) same-twice ∙ filter-on_kept (twice old) (name old) old way names-pass as_many

  groups-way : groups new ≡ way
  unfolding groups
  groups-way = ap₂ (λ (ns ls : List ℕ). map (λ l. position l ns) ls) same-names kept-way
      ∙ map_back (λ l. position l (group_labels old)) (name old) way (λ j m. position-name old j (below j m))

  -- ---- the same strata, and as many samples in those that inform

  same-strata : strata (relabelled lot way) ≡ strata lot
  unfolding strata held_strata relabelled
  same-strata = ap (λ (ks : List ℕ). cond lot.stratified (numbered (gathered lot.strata ks)) (map (λ i. 0) ks)) same-kept

  same-strata_count : strata_count (relabelled lot way) ≡ strata_count lot
  unfolding strata_count held_strata relabelled
  same-strata_count = ap (λ (ks : List ℕ). cond lot.stratified (length (named (gathered lot.strata ks)) + how_many none (gathered lot.strata ks)) 1) same-kept

  same-informative : informative_count (relabelled lot way) ≡ informative_count lot
  unfolding informative_count informative kept_count
  same-informative = (λ i. informative (same-strata i) (groups-way i) (length (same-kept i)))
      ∙ count-cong _ _ (range 0 (length (kept old))) (λ k m. informs-same (strata lot) (groups old) way (length (kept old))
      (length-strata lot) (length-groups old) is-way.labels_all is-way.keeps_counts (get_or (strata lot) k 0))

  pub same-lot : SameLot lot way
  same-lot = record {
    same_length = same-length;
    same_counts = same-how_many;
    same_kept = same-kept;
    same_names = same-names;
    same_strata = same-strata;
    same_strata_count = same-strata_count;
    same_informative = same-informative;
    groups_are = groups-way;
  }
