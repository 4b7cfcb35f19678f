-- The ways of labels within strata: every one, nothing else, none twice, and M of them. They are the same list for each of the ways, and any other order
-- gives the same counts. Over plain lists, then for a lot.
use Rattle.lists.proofs.Base.{◌≡◌, refl, sym, ap, ap₂, ◌∙◌, Bool, ⊎_elim, ℕ, zero, suc, ◌/◌, ◌≤◌, ◌<◌, suc-le-suc, arith, dec_lt, length, get_or}
use mathlib.Core.List.Memᴰ.{cases_cons}
use mathlib.Core.List.Memᴰ.{head as here}
use mathlib.Core.List.Memᴰ.{not-nil}
use mathlib.Core.List.Memᴰ.{tail as there}
use mathlib.Core.List.{List, [], ◌∷◌, Memᴰ as Member}
use native.Mathlib.Nat.{lt_of_not-le, mul-div_cancel}
use Rattle.lists.specs.{Ranges.up_from, Ranges.table, Filters.count_if, Numbers.productℕ, Numbers.factorial, Numbers.upward}
use Rattle.lists.specs.inner.Numbers.{Below}
use Rattle.lot.specs.{Lot.Lot, Kept.groups, Kept.kept_count, Kept.group_count, Strata.strata, Way.tally, Way.IsWay, Way.relabelled, Way.SameLot}
use Rattle.exhaustive_ways.specs.Ways.{deal, ways_of, ways, size_factorials, label_factorials, way_count_of, way_count}
use Rattle.exhaustive_ways.specs.Every.{Distinct, Every}
use Rattle.exhaustive_ways.specs.inner.Every.{WayOf}
use Rattle.lists.proofs.{Members.map-cong, Members.up_from-member, Upward.member-upward, Upward.upward-member}
use Rattle.exhaustive_ways.proofs.Distinct.{distinct-up_from, distinct-upward, productℕ-more, any_order}
use Rattle.exhaustive_ways.proofs.DealtWays.{deal-cong, deal-distinct, balanced-tally, deal-sound, deal-complete, counts!, sizes!, counts!-pos, deal-count}
use Rattle.lot.proofs.Tallies.{mark-same, mark-label}

-- ---- counts of labels

pub below-member : (g : ℕ) (labels : List ℕ) (j : ℕ) → Below g labels → Member j labels → j < g
below-member g [] j h m = absurd (not-nil m)
below-member g (x ∷ l) j h m = ⊎_elim (λ s. omega (arith, h 0 (omega arith))) (λ t. below-member g l j (λ i b. h (suc i) (suc-le-suc b)) t) (cases_cons m)

-- a label that no sample has is counted nowhere
pub tally-absent : (ss labels : List ℕ) (s j : ℕ) → (Member j labels → ⊥) → tally ss labels s j ≡ 0
unfolding tally
tally-absent [] labels s j out = refl
tally-absent (s₀ ∷ ss) [] s j out = refl
tally-absent (s₀ ∷ ss) (j₀ ∷ l) s j out = omega (arith, mark-label s₀ j₀ s j (λ e. out (here e)), tally-absent ss l s j (λ m. out (there m)))

-- a sample's own label is counted in its stratum
pub tally-own : (ss labels : List ℕ) (i : ℕ) → i < length ss → i < length labels → 0 < tally ss labels (get_or ss i 0) (get_or labels i 0)
unfolding tally
tally-own [] labels i p q = absurd (omega arith)
tally-own (s₀ ∷ ss) [] i p q = absurd (omega arith)
tally-own (s₀ ∷ ss) (j₀ ∷ l) zero p q = omega (arith, mark-same s₀ j₀ s₀ j₀ refl refl)
tally-own (s₀ ∷ ss) (j₀ ∷ l) (suc i) p q = omega (arith, tally-own ss l i (omega arith) (omega arith))

-- the factorials of the labels that there are, and of all below g
factorials-below : (g : ℕ) (ss labels : List ℕ) → Below g labels → counts! (upward ss) g (tally ss labels) ≡ label_factorials ss labels
unfolding counts! label_factorials table factorial
factorials-below g ss labels below = ap productℕ (map-cong _ _ (upward ss) (λ s _.
    productℕ-more (λ j. factorial (tally ss labels s j)) (upward labels) (up_from 0 g) (distinct-upward labels) (distinct-up_from 0 g)
    (λ j m. up_from-member 0 g j (omega arith) (omega (arith, below-member g labels j below (upward-member labels j m))))
    (λ j _ out. ap factorial (tally-absent ss labels s j (λ m. out (member-upward labels j m))))))

-- ---- the ways of labels below g, one for each sample

-- the labels themselves are a way
pub own-way : (ss labels : List ℕ) → WayOf ss labels labels
own-way ss labels = record { labels_all = refl; keeps_counts = λ s j. refl }

module _ (g : ℕ) (ss labels : List ℕ) (fits : length labels ≡ length ss) (below : Below g labels) where
  -- a way has no other labels
  pub way-below : (way : List ℕ) → WayOf ss labels way → Below g way
  way-below way w i h = lt_of_not-le (λ e. omega (
    arith,
    tally-own ss way i (omega (arith, w.labels_all)) h,
    w.keeps_counts (get_or ss i 0) (get_or way i 0),
    tally-absent ss labels (get_or ss i 0) (get_or way i 0) (λ m. omega (arith, below-member g labels (get_or way i 0) below m)),
  ))

  -- what is listed is a way, what is a way is listed, and none is listed twice
  pub ways-sound : (way : List ℕ) → Member way (ways_of g ss labels) → WayOf ss labels way
  unfolding ways_of
  ways-sound way m =
      let d = deal-sound g ss (tally ss labels) way (balanced-tally g ss labels fits below) m in
      let above : (l : List ℕ) → Below g l → (s j : ℕ) → g ≤ j → tally ss l s j ≡ 0 = λ l b s j e. tally-absent ss l s j (λ n. omega (arith, below-member g l j b n)) in record {
        labels_all = d.labels_all ∙ sym fits;
        keeps_counts = λ s j. elim (dec_lt j g) [
          | yes h ↦ d.uses_up s j h
          | no h ↦ above way d.below s j (omega arith) ∙ sym (above labels below s j (omega arith))
        ];
      }

  pub ways-complete : (way : List ℕ) → WayOf ss labels way → Member way (ways_of g ss labels)
  unfolding ways_of
  ways-complete way w = deal-complete g ss (tally ss labels) way (record {
    labels_all = w.labels_all ∙ fits;
    below = way-below way w;
    uses_up = λ s j _. w.keeps_counts s j;
  })

  pub ways-distinct : Distinct (ways_of g ss labels)
  unfolding ways_of
  ways-distinct = deal-distinct g ss (tally ss labels)

  -- M is their number
  pub ways-count : length (ways_of g ss labels) ≡ way_count_of ss labels
  unfolding ways_of way_count_of size_factorials sizes!
  ways-count =
      let c = tally ss labels in
      let whole = deal-count (upward ss) g ss c (distinct-upward ss) (member-upward ss) (balanced-tally g ss labels fits below) in
      sym (mul-div_cancel (length (deal g ss c)) (counts!-pos (upward ss) g c)) ∙ ap₂ ◌/◌ whole (factorials-below g ss labels below)

  -- each of the ways has the same ways, in the same order, and the same M
  pub ways-same : (way : List ℕ) → WayOf ss labels way → ways_of g ss way ≡ ways_of g ss labels
  unfolding ways_of
  ways-same way w = deal-cong g ss _ _ (λ s j _. w.keeps_counts s j)

  -- any walk that meets every way once, in whatever order, has as many that pass a test
  pub ways-any-order : (walk : List (List ℕ)) → ((way : List ℕ) → Member way walk → WayOf ss labels way) → ((way : List ℕ) → WayOf ss labels way → Member way walk)
      → Distinct walk → (p : List ℕ → Bool) → count_if p walk ≡ count_if p (ways_of g ss labels)
  ways-any-order walk sound complete once p = any_order walk (ways_of g ss labels) once ways-distinct
      (λ way m. ways-complete way (sound way m)) (λ way m. complete way (ways-sound way m)) p

pub count_same : (g : ℕ) (ss labels way : List ℕ) → length labels ≡ length ss → Below g labels → WayOf ss labels way → way_count_of ss way ≡ way_count_of ss labels
count_same g ss labels way fits below w = sym (ways-count g ss way (w.labels_all ∙ fits) (way-below g ss labels fits below way w))
    ∙ ap length (ways-same g ss labels fits below way w) ∙ ways-count g ss labels fits below

-- ---- the ways of a lot whose kept samples have a stratum and a group below g each

module _ (lot : Lot) (grouped : length (groups lot.labels) ≡ kept_count lot.labels) (stratified : length (strata lot) ≡ kept_count lot.labels)
    (below : Below (group_count lot.labels) (groups lot.labels)) where
  fits : length (groups lot.labels) ≡ length (strata lot)
  fits = grouped ∙ sym stratified

  pub way_of : (way : List ℕ) → IsWay lot way → WayOf (strata lot) (groups lot.labels) way
  way_of way w = record { labels_all = w.labels_all ∙ sym grouped; keeps_counts = w.keeps_counts }

  -- THE WALK MEETS EVERY WAY, nothing else and none twice, and M is their number.
  pub every : Every lot (ways lot)
  unfolding ways way_count
  every =
      let g = group_count lot.labels in
      let ss = strata lot in
      let labels = groups lot.labels in record {
        sound = λ way m. let w = ways-sound g ss labels fits below way m in record { labels_all = w.labels_all ∙ grouped; keeps_counts = w.keeps_counts };
        complete = λ way w. ways-complete g ss labels fits below way (way_of way w);
        once = ways-distinct g ss labels fits below;
        many = ways-count g ss labels fits below;
      }

  -- Open is only the order: every order gives the same results.
  pub every-order : (walk : List (List ℕ)) → Every lot walk → (p : List ℕ → Bool) → count_if p walk ≡ count_if p (ways lot)
  every-order walk e p = any_order walk (ways lot) e.once every.once
      (λ way m. every.complete way (e.sound way m)) (λ way m. e.complete way (every.sound way m)) p

  -- the ways of a way are the same list
  pub same-ways : (way : List ℕ) → IsWay lot way → ways_of (group_count lot.labels) (strata lot) way ≡ ways lot
  unfolding ways
  same-ways way w = ways-same (group_count lot.labels) (strata lot) (groups lot.labels) fits below way (way_of way w)

  -- so a way handed in as the observed one has the same ways and the same M
  module _ (way : List ℕ) (is-way : IsWay lot way) (same : SameLot lot way) where
    pub relabelled-ways : ways (relabelled lot way) ≡ ways lot
    unfolding ways group_count
    relabelled-ways = ap (λ (ns : List ℕ). ways_of (length ns) (strata (relabelled lot way)) (groups (relabelled lot way).labels)) same.same_names
        ∙ ap₂ (ways_of (group_count lot.labels)) same.same_strata same.groups_are ∙ same-ways way is-way

    pub relabelled-count : way_count (relabelled lot way) ≡ way_count lot
    unfolding way_count
    relabelled-count = ap₂ way_count_of same.same_strata same.groups_are
        ∙ count_same (group_count lot.labels) (strata lot) (groups lot.labels) way fits below (way_of way is-way)
