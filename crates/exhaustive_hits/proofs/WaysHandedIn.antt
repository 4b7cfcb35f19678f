-- A way handed in: the kept samples have its labels in turn and the others their own, and no other labels do that.
use Rattle.lists.proofs.Base.{◌≡◌, refl, sym, ap, ap₂, ◌∙◌, Bool, true, false, cond, true≢false, ℕ, zero, suc, arith, length, get_or, drop}
use mathlib.Core.List.{List, [], ◌∷◌, map, cons≢nil, head-eq_of_cons-eq, tail-eq_of_cons-eq}
use Rattle.lists.specs.{Ranges.range, Filters.filter}
use Rattle.limits.specs.Limits.{none}
use Rattle.lot.specs.{Lot.Lot, Kept.twice, Kept.kept, Kept.gathered, Kept.kept_labels, Kept.kept_count}
use Rattle.lot.specs.Way.{tally, IsWay, on_kept, relabelled}
use Rattle.lot.proofs.{Places.picks, Places.picks-places, WaysOnSamples.on_kept-yes, WaysOnSamples.on_kept-no}
use Rattle.lot.proofs.Relabelled.{same-lot, same-twice, kept-way}
use Rattle.exhaustive_hits.specs.Level.{HandsIn, Observed}

-- ---- samples outside stay

outside-step : (p : ℕ → Bool) (f : ℕ → ℕ) (b : Bool) (l : ℕ) (ls way : List ℕ) (i : ℕ) → p l ≡ b → p (get_or (l ∷ ls) i none) ≡ false
    → ((i : ℕ) (way : List ℕ) → p (get_or ls i none) ≡ false → get_or (on_kept p f (λ l. l) ls way) i none ≡ get_or ls i none)
    → get_or (on_kept p f (λ l. l) (l ∷ ls) way) i none ≡ get_or (l ∷ ls) i none
outside-step p f true l ls way zero e h ih = absurd (true≢false (sym e ∙ h))
outside-step p f true l ls way (suc i) e h ih = ap (λ (xs : List ℕ). get_or xs (suc i) none) (on_kept-yes p f (λ l. l) l ls way e) ∙ ih i (drop 1 way) h
outside-step p f false l ls way zero e h ih = ap (λ (xs : List ℕ). get_or xs 0 none) (on_kept-no p f (λ l. l) l ls way e)
outside-step p f false l ls way (suc i) e h ih = ap (λ (xs : List ℕ). get_or xs (suc i) none) (on_kept-no p f (λ l. l) l ls way e) ∙ ih i way h

on_kept-outside : (p : ℕ → Bool) (f : ℕ → ℕ) (ls : List ℕ) (i : ℕ) (way : List ℕ) → p (get_or ls i none) ≡ false → get_or (on_kept p f (λ l. l) ls way) i none ≡ get_or ls i none
unfolding on_kept
on_kept-outside p f [] i way h = refl
on_kept-outside p f (l ∷ ls) i way h = outside-step p f (p l) l ls way i refl h (λ k v. on_kept-outside p f ls k v)

-- ---- what stands where a label was kept, and elsewhere, decides the list

module _ (p : ℕ → Bool) (f : ℕ → ℕ) where
  only_step : (b : Bool) (l k : ℕ) (ls ks way : List ℕ) → p l ≡ b → (b ≡ false → k ≡ l)
      → ((way : List ℕ) → picks p ls ks ≡ map f way → ks ≡ on_kept p f (λ l. l) ls way)
      → cond b (k ∷ picks p ls ks) (picks p ls ks) ≡ map f way → k ∷ ks ≡ on_kept p f (λ l. l) (l ∷ ls) way
  only_step true l k ls ks [] e h ih q = absurd (cons≢nil q)
  only_step true l k ls ks (j ∷ way) e h ih q = ap₂ ◌∷◌ (head-eq_of_cons-eq q) (ih way (tail-eq_of_cons-eq q)) ∙ sym (on_kept-yes p f (λ l. l) l ls (j ∷ way) e)
  only_step false l k ls ks way e h ih q = ap₂ ◌∷◌ (h refl) (ih way q) ∙ sym (on_kept-no p f (λ l. l) l ls way e)

  only : (ls ks way : List ℕ) → length ks ≡ length ls → ((i : ℕ) → p (get_or ls i none) ≡ false → get_or ks i none ≡ get_or ls i none)
      → picks p ls ks ≡ map f way → ks ≡ on_kept p f (λ l. l) ls way
  unfolding picks on_kept
  only [] [] way n h q = refl
  only [] (k ∷ ks) way n h q = absurd (omega arith)
  only (l ∷ ls) [] way n h q = absurd (omega arith)
  only (l ∷ ls) (k ∷ ks) way n h q = only_step (p l) l k ls ks way refl (λ e. h 0 e) (λ v. only ls ks v (omega arith) (λ i. h (suc i))) q

  on_kept-only : (ls ks way : List ℕ) → length ks ≡ length ls → ((i : ℕ) → p (get_or ls i none) ≡ false → get_or ks i none ≡ get_or ls i none)
      → map (λ i. get_or ks i none) (filter (λ i. p (get_or ls i none)) (range 0 (length ls))) ≡ map f way → ks ≡ on_kept p f (λ l. l) ls way
  on_kept-only ls ks way n h q = only ls ks way n h (sym (picks-places p ls ks) ∙ q)

-- ---- of a lot

module _ (lot : Lot) (way : List ℕ) (is-way : IsWay lot way) where
  hands_in : HandsIn lot way (relabelled lot way).labels
  unfolding kept_labels gathered relabelled
  hands_in =
      let same = same-lot lot way is-way in
      record {
        same_length = same.same_length;
        inside = ap (map (λ i. get_or (relabelled lot way).labels i none)) (sym same.same_kept) ∙ kept-way lot way is-way;
        outside = λ i h. on_kept-outside (twice lot.labels) _ lot.labels i way h;
      }

  none-other : (labels : List ℕ) → HandsIn lot way labels → labels ≡ (relabelled lot way).labels
  unfolding relabelled kept
  none-other labels h = on_kept-only (twice lot.labels) _ lot.labels labels way h.same_length h.outside h.inside

  pub observes : Observed lot way
  observes = record { handed_in = hands_in; no_other = none-other; same_lot = same-lot lot way is-way }

  -- ---- another way, handed in after the first

  -- it is a way of the lot with the first one's labels
  pub way-again : (v : List ℕ) → IsWay lot v → IsWay (relabelled lot way) v
  unfolding kept_count
  way-again v is-v =
      let same = same-lot lot way is-way in
      record {
        labels_all = is-v.labels_all ∙ ap length (sym same.same_kept);
        keeps_counts = λ s j. ap (λ (ss : List ℕ). tally ss v s j) same.same_strata ∙ is-v.keeps_counts s j ∙ sym (is-way.keeps_counts s j)
            ∙ ap₂ (λ (ss gs : List ℕ). tally ss gs s j) (sym same.same_strata) (sym same.groups_are);
      }

-- the labels are its own, whichever way was handed in before
pub handed-again : (lot : Lot) (way : List ℕ) → IsWay lot way → (v : List ℕ) → IsWay lot v → (relabelled (relabelled lot way) v).labels ≡ (relabelled lot v).labels
handed-again lot way is-way v is-v =
    let same = same-lot lot way is-way in
    let again = hands_in (relabelled lot way) v (way-again lot way is-way v is-v) in
    let first = hands_in lot way is-way in
    none-other lot v is-v (relabelled (relabelled lot way) v).labels (record {
      same_length = again.same_length ∙ first.same_length;
      inside = ap (map (λ i. get_or (relabelled (relabelled lot way) v).labels i none)) (sym same.same_kept) ∙ again.inside
          ∙ ap (λ (ns : List ℕ). map (λ j. get_or ns j none) v) same.same_names;
      outside = λ i h. let stays = first.outside i h in
          again.outside i (ap₂ (λ (t : ℕ → Bool) (l : ℕ). t l) (same-twice lot way is-way) stays ∙ h) ∙ stays;
    })
