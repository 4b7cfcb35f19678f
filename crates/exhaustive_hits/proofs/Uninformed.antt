-- With two groups there is one way alone exactly where strata are given and none informs: where the sampled test has no p for want of
-- informing strata. Without strata two groups stand in one stratum, which informs.
use Rattle.lists.proofs.Base.{◌≡◌, refl, sym, ap, ◌∙◌, subst, Bool, true, false, ◌&&◌, cond, ℕ, ◌+◌, ◌<◌, ◌≤◌, arith, eqb, ne_eqb, length, get_or}
use mathlib.Core.List.Memᴰ
use mathlib.Core.List.{List, Memᴰ as Member}
use Rattle.lists.specs.Numbers.{how_many, position}
use Rattle.lists.proofs.Upward.{upward-one, at_position, position-below}
use Rattle.limits.specs.Limits.{none}
use Rattle.lot.specs.{Lot.Lot, Kept.kept_labels, Kept.group_labels, Kept.groups, Kept.group_count}
use Rattle.lot.specs.Strata.{named, held_strata, strata, strata_count, informative_count}
use Rattle.lot.proofs.GroupsAndStrata.{name, groups-named, strata-below}
use Rattle.permanova_statistics.specs.Warnings.{uninformed}
use Rattle.exhaustive_ways.specs.Ways.{way_count}
use Rattle.exhaustive_ways.proofs.OneWay.{groups-fit, one-way-groups, one-way-informs}

-- kept samples that are all in the first one's group have its label
one-group : (labels : List ℕ) → ((k : ℕ) → k < length (groups labels) → get_or (groups labels) k 0 ≡ get_or (groups labels) 0 0) → group_count labels < 2
unfolding group_count group_labels
one-group labels same = upward-one (kept_labels labels) (name labels (get_or (groups labels) 0 0)) (λ l m.
    let r = Memᴰ.of_map (name labels) (groups labels) (subst (Member l) (sym (groups-named labels)) m) in
    let there = position-below r.0 (groups labels) r.1 in
    sym r.2 ∙ ap (name labels) (sym (at_position r.0 (groups labels) 0 r.1) ∙ same (position r.0 (groups labels)) there))

module _ (lot : Lot) where
  -- without strata all kept samples are of one stratum
  one-stratum : lot.stratified ≡ false → (k : ℕ) → k < length (strata lot) → get_or (strata lot) k 0 ≡ 0
  unfolding strata_count
  one-stratum free k h =
      let one : strata_count lot ≡ 1 = ap (λ (b : Bool). cond b (length (named (held_strata lot)) + how_many none (held_strata lot)) 1) free in
      omega (arith, strata-below lot k h)

  not-one-way : 2 ≤ group_count lot.labels → lot.stratified ≡ false → way_count lot ≡ 1 → ⊥
  not-one-way two free one = omega (
    arith,
    one-group lot.labels (λ k h.
        let h' : k < length (strata lot) = omega (arith, groups-fit lot) in
        let z : 0 < length (strata lot) = omega arith in
        one-way-groups lot one k 0 h' z (one-stratum free k h' ∙ sym (one-stratum free 0 z))),
  )

  -- M = 1 EXACTLY WHERE THE SAMPLED TEST HAS NO INFORMING STRATA.
  pub one-way-uninformed : 2 ≤ group_count lot.labels → eqb (way_count lot) 1 ≡ uninformed lot
  unfolding uninformed
  one-way-uninformed two = by lot.stratified refl
    where
      by : (b : Bool) → lot.stratified ≡ b → eqb (way_count lot) 1 ≡ (b && eqb (informative_count lot) 0)
      by true e = one-way-informs lot
      by false e = ne_eqb (way_count lot) 1 (not-one-way two e)
