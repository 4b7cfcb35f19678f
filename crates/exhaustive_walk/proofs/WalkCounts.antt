-- The three counts of the walk, way by way, and what it is asked.
use Rattle.lists.proofs.Base.{◌≡◌, refl, sym, ap, subst, ◌∙◌, Bool, true, false, cond, ℕ, ◌+◌, ◌<◌, ◌^◌, arith, length, length-append}
use mathlib.Core.List.Memᴰ
use mathlib.Core.List.Memᴰ.{head as here}
use mathlib.Core.List.{List, [], ◌∷◌, ◌++◌, append-nil, Memᴰ as Member}
use lib.Seq.{append_snoc}
use Rattle.lists.specs.Filters.{count_if}
use Rattle.lists.proofs.{Filters.count_if-append, Filters.count_if-below, Counts.count-one}
use Rattle.exhaustive_ways.specs.inner.{Remaining.onward, Order.front, Order.through, Order.after, Order.First, Order.NextWay}
use Rattle.exhaustive_ways.proofs.WayOrder.{through-start}
use Rattle.exhaustive_hits.specs.declared.{Seen.Seen, Hits.Hits}
use Rattle.exhaustive_hits.specs.inner.WayHits.{location_hit, dispersion_hit, assignment_hit, hits_of, hits_among}
use Rattle.exhaustive_walk.specs.declared.way_statistics.Frame.{Frame}
use Rattle.exhaustive_walk.specs.inner.{WayStatistics.Judged, Walks.Walking}

-- of all ways some are done, and counted; the next of the rest is `way`
pub record Walked (observed : Seen) (found : List ℕ → Seen) (all : List (List ℕ)) (g : ℕ) (ss counts way : List ℕ) (hits : Hits) : Type 0 where
  pub done : List (List ℕ)
  pub rest : List (List ℕ)
  pub split : all ≡ done ++ rest
  pub next : First g ss counts way rest
  pub counted : hits ≡ hits_among observed found done

pub walked-first : (observed : Seen) (found : List ℕ → Seen) {all : List (List ℕ)} {g : ℕ} {ss counts way : List ℕ} → First g ss counts way all
    → Walked observed found (way ∷ after g ss counts way (length ss)) g ss counts way (record { location = 0; dispersion = 0; assignment = 0 })
unfolding hits_among count_if
walked-first observed found {all} {g} {ss} {counts} {way} f = record {
  done = [];
  rest = way ∷ after g ss counts way (length ss);
  split = refl;
  next = record { node = f.node; all = refl };
  counted = refl;
}

module _ {observed : Seen} {found : List ℕ → Seen} {all : List (List ℕ)} {g : ℕ} {ss counts way : List ℕ} {h : Hits} (w : Walked observed found all g ss counts way h) where
  -- the way is one of all
  pub walked-member : Member way all
  walked-member = subst (Member way) (sym (w.split ∙ ap (λ (r : List (List ℕ)). w.done ++ r) w.next.all)) (Memᴰ.append_right w.done (here refl))

  parts : all ≡ (w.done ++ (way ∷ [])) ++ after g ss counts way (length ss)
  parts = w.split ∙ ap (λ (r : List (List ℕ)). w.done ++ r) w.next.all ∙ sym (append_snoc w.done way (after g ss counts way (length ss)))

  one_more : (p : List ℕ → Bool) {n r : ℕ} → n ≡ count_if p w.done → r ≡ cond (p way) 1 0 → n + r ≡ count_if p (w.done ++ (way ∷ []))
  one_more p en er = omega (arith, en, er, count_if-append p w.done (way ∷ []), count-one p way)

  -- no sum is past the number of ways
  below : (p : List ℕ → Bool) (most : ℕ) → length all < most → {n : ℕ} → n ≡ count_if p (w.done ++ (way ∷ [])) → n < most
  below p most few en = omega (arith, en, count_if-below p (w.done ++ (way ∷ [])), ap length parts, length-append (w.done ++ (way ∷ [])) (after g ss counts way (length ss)))

  -- the way is judged
  module _ {r : Hits} (er : r ≡ hits_of observed (found way)) where
    abbrev sum : Hits
    sum = record { location = h.location + r.location; dispersion = h.dispersion + r.dispersion; assignment = h.assignment + r.assignment }

    sum-is : sum ≡ hits_among observed found (w.done ++ (way ∷ []))
    unfolding hits_of hits_among
    sum-is = λ i. record {
      location = one_more (λ way. location_hit observed (found way)) (ap (λ (h : Hits). h.location) w.counted) (ap (λ (h : Hits). h.location) er) i;
      dispersion = one_more (λ way. dispersion_hit observed (found way)) (ap (λ (h : Hits). h.dispersion) w.counted) (ap (λ (h : Hits). h.dispersion) er) i;
      assignment = one_more (λ way. assignment_hit observed (found way)) (ap (λ (h : Hits). h.assignment) w.counted) (ap (λ (h : Hits). h.assignment) er) i;
    }

    pub walked-fits : (most : ℕ) → length all < most → (h.location + r.location < most) × (h.dispersion + r.dispersion < most) × (h.assignment + r.assignment < most)
    unfolding hits_among
    walked-fits most few = (
      below (λ way. location_hit observed (found way)) most few (ap (λ (h : Hits). h.location) sum-is),
      below (λ way. dispersion_hit observed (found way)) most few (ap (λ (h : Hits). h.dispersion) sum-is),
      below (λ way. assignment_hit observed (found way)) most few (ap (λ (h : Hits). h.assignment) sum-is),
    )

    module _ {more : Bool} (counts' way' : List ℕ) (n : NextWay more g ss counts' way' (after g ss counts way (length ss))) where
      -- and another comes
      pub walked_more : more ≡ true → Walked observed found all g ss counts' way' sum
      unfolding NextWay
      walked_more e = record {
        done = w.done ++ (way ∷ []);
        rest = after g ss counts way (length ss);
        split = parts;
        next = subst (λ (b : Bool). NextWay b g ss counts' way' (after g ss counts way (length ss))) e n;
        counted = sum-is;
      }

      -- and none is left
      pub walked_all : more ≡ false → sum ≡ hits_among observed found all
      unfolding NextWay
      walked_all e =
          let none = subst (λ (b : Bool). NextWay b g ss counts' way' (after g ss counts way (length ss))) e n in
          sum-is ∙ ap (hits_among observed found) (sym (parts ∙ ap (λ (r : List (List ℕ)). (w.done ++ (way ∷ [])) ++ r) none ∙ append-nil (w.done ++ (way ∷ []))))

      -- with each way one fewer remains
      pub fewer : more ≡ true → length (after g ss counts' way' (length ss)) < length (after g ss counts way (length ss))
      unfolding NextWay
      fewer e =
          let next = subst (λ (b : Bool). NextWay b g ss counts' way' (after g ss counts way (length ss))) e n in
          omega (arith, ap length next.all)

-- ---- what is asked

-- from the first sample, the first of all ways
pub first-ways : (g : ℕ) (ss counts way : List ℕ) {counts' way' : List ℕ} → First g ss counts' way' (through g ss counts (front way 0) 0 ++ after g ss counts way 0)
    → First g ss counts' way' (onward g ss counts 0)
first-ways g ss counts way {counts'} {way'} f = subst (First g ss counts' way') (through-start g ss counts way) f

module _ {f : Frame} {ks ss counts way₀ : List ℕ} (a : Walking f ks ss counts way₀) {all : List (List ℕ)} (e : onward f.groups ss counts 0 ≡ all) where
  -- they are few, and each of them can be judged
  pub few-ways : length all < 2 ^ 64
  few-ways = subst (λ (ways : List (List ℕ)). length ways < 2 ^ 64) e a.few

  pub judgeable : {way : List ℕ} → Member way all → Judged f.n (length ks) f.groups ks way
  judgeable {way} m = a.judged way (subst (Member way) (sym e) m)
