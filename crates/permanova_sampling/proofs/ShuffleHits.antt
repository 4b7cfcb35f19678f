-- Hits that are counted one after the other, and hits of shuffles over parts as hits of shuffles within strata.
use Rattle.lists.proofs.Base.{◌≡◌, sym, ap, subst, ◌∙◌, Bool, true, false, cond, List, ℕ, ◌+◌, ◌<◌, ◌≤◌, zero-add, arith, length, Float}
use Rattle.std.specs.Int.{from_bool}
use Rattle.lists.specs.{Ranges.range, Filters.count_if}
use Rattle.lists.specs.inner.Numbers.{Below}
use Rattle.lists.proofs.Filters.{count_turn, count-end, one_more}
use Rattle.lot.specs.declared.Shape.{Shape}
use Rattle.grouping.specs.inner.Parts.{Grouped}
use Rattle.shuffle.specs.Shuffled.{parts, shuffled}
use Rattle.shuffle.specs.inner.Parted.{shuffled_by}
use Rattle.shuffle.proofs.Shuffles.{after_shuffle_by-fine, after_shuffle-within}
use Rattle.permanova_p_values.specs.declared.Statistic.{Statistic}
use Rattle.permanova_p_values.specs.declared.Both.{Both}
use Rattle.permanova_sampling.specs.inner.{Drawn.location_hit, Drawn.dispersion_hit, Drawn.hits_among, Hits.Labelled, Hits.Sampling}

-- one more where it is so, as the code adds it
pub added-one : (b : Bool) (a : ℕ) {n x : ℕ} → n ≡ from_bool b → x ≡ a + n → x ≡ cond b 1 0 + a
added-one true a e f = omega arith
added-one false a e f = omega arith

-- a of the first i numbers pass; those and the ones left that do are all
pub record Counted (p : ℕ → Bool) (n a i : ℕ) : Type 0 where
  pub most : i ≤ n
  pub few : a ≤ i
  pub all : a + count_if p (range i n) ≡ count_if p (range 0 n)

module _ {p : ℕ → Bool} {n : ℕ} where
  pub counted_none : Counted p n 0 0
  counted_none = record { most = omega arith; few = omega arith; all = zero-add _ }

  pub counted_next : {a i a' : ℕ} {b : Bool} → Counted p n a i → i < n → b ≡ p i → a' ≡ cond b 1 0 + a → Counted p n a' (i + 1)
  counted_next {a} {i} {a'} {b} c h e g = record {
    most = omega arith;
    few = omega (arith, one_more b a, c.few);
    all = count_turn p i n a h e g c.all;
  }

  pub counted-all : {a i : ℕ} → Counted p n a i → n ≤ i → a ≡ count_if p (range 0 n)
  counted-all {a} {i} c h = count-end p i n a h c.all

-- the hits of both among the first i of n labels, and room for labels
pub record Counting (t w z : List Float) (sizes : Shape) (seen : Both Statistic) (total : Float) (way : ℕ → List ℕ) (n : ℕ) (lab : List ℕ) (hits : Both ℕ) (i : ℕ) : Type 0 where
  pub room : length lab ≡ 256
  pub location : Counted (λ k. location_hit t w sizes seen.location total (way k)) n hits.location i
  pub dispersion : Counted (λ k. dispersion_hit z sizes seen.dispersion (way k)) n hits.dispersion i

module _ {t w z : List Float} {sizes : Shape} {seen : Both Statistic} {total : Float} {way : ℕ → List ℕ} {n : ℕ} where
  pub counting-none : {lab : List ℕ} → length lab ≡ 256 → Counting t w z sizes seen total way n lab (record { location = 0; dispersion = 0 }) 0
  counting-none room = record { room = room; location = counted_none; dispersion = counted_none }

  -- one more, by the labels that were dealt
  pub counting-next : {lab lab' new : List ℕ} {hits : Both ℕ} {a b i : ℕ} {x y : Bool} → Counting t w z sizes seen total way n lab hits i → i < n → length lab' ≡ length lab → new ≡ way i
      → x ≡ location_hit t w sizes seen.location total new → y ≡ dispersion_hit z sizes seen.dispersion new → a ≡ cond x 1 0 + hits.location → b ≡ cond y 1 0 + hits.dispersion
      → Counting t w z sizes seen total way n lab' (record { location = a; dispersion = b }) (i + 1)
  counting-next c h long e ex ey ea eb = record {
    room = long ∙ c.room;
    location = counted_next c.location h (ex ∙ ap (location_hit t w sizes seen.location total) e) ea;
    dispersion = counted_next c.dispersion h (ey ∙ ap (dispersion_hit z sizes seen.dispersion) e) eb;
  }

  pub counting-all : {lab : List ℕ} {hits : Both ℕ} {i : ℕ} → Counting t w z sizes seen total way n lab hits i → n ≤ i → hits ≡ hits_among t w z sizes seen total way n
  unfolding hits_among
  counting-all c h = λ j. record { location = counted-all c.location h j; dispersion = counted-all c.dispersion h j }

module _ {sizes : Shape} {gs sn sm : List ℕ} (r : Sampling sizes gs sn sm) where
  -- a shuffle gives each sample a group
  pub labelled-again : (seed i : ℕ) {lab : List ℕ} → lab ≡ shuffled_by sn sm sizes.strata gs seed i → Labelled sizes lab
  labelled-again seed i {lab} e =
      let l = r.labelled in
      let f = after_shuffle_by-fine sizes.kept sizes.groups l.some sn sm sizes.strata gs seed i (record { long = l.labels; below = l.groups }) in
      record { labels = ap length e ∙ f.long; groups = subst (Below sizes.groups) (sym e) f.below; some = l.some; enough = l.enough; few = l.few }

module _ (t w z : List Float) (sizes : Shape) (seen : Both Statistic) (total : Float) (n : ℕ) where
  pub hits-within : (ss : List ℕ) (m s : ℕ) (sn sm gs : List ℕ) (seed : ℕ) → Grouped ss m s sn sm
      → hits_among t w z sizes seen total (shuffled_by sn sm s gs seed) n ≡ hits_among t w z sizes seen total (shuffled (parts ss m s) gs seed) n
  hits-within ss m s sn sm gs seed g = λ j. hits_among t w z sizes seen total (λ i. (after_shuffle-within ss m s sn sm gs seed i g j).labels) n
