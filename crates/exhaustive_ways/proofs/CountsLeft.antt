-- The counts left, in one list: a row of g numbers for each stratum.
use Rattle.lists.proofs.Base.{◌≡◌, refl, sym, ap, ap₂, ◌∙◌, subst, ⊎_elim, ℕ, suc, ◌+◌, ◌-◌, ◌*◌, ◌/◌, ◌%◌, ◌≤◌, ◌<◌, suc-le-suc}
use Rattle.lists.proofs.Base.{arith, ℕ_discrete, dec_lt, length, get_or, drop, set, replicate, length-replicate, length-set, get_or-replicate}
use Rattle.lists.proofs.Base.{List·get_or-eq-default, get_or-set_same, get_or-set_other, ext_get_or}
use mathlib.Core.List.Memᴰ.{cases_cons}
use mathlib.Core.List.Memᴰ.{head as here}
use mathlib.Core.List.Memᴰ.{not-nil}
use mathlib.Core.List.Memᴰ.{tail as there}
use mathlib.Core.List.{List, [], ◌∷◌, Memᴰ as Member}
use native.Mathlib.Nat.{div-add-mod', le_trans}
use lib.Arith.{digits_div, digits_mod}
use Rattle.lists.specs.inner.Numbers.{Below}
use Rattle.lists.specs.Writes.{cleared}
use Rattle.lists.proofs.{Ranges.length-table, Ranges.get_or-table, Rows.row-end}
use Rattle.lot.specs.Way.{mark, tally}
use Rattle.exhaustive_ways.specs.Ways.{spend, deal, ways_of}
use Rattle.exhaustive_ways.specs.inner.Remaining.{left_in, HasRows, tallies, onward}
use Rattle.exhaustive_ways.proofs.{DealtWays.deal-cong, WayCounts.tally-step, WayCounts.tally-end, WayCounts.tally-le}
use Rattle.lot.proofs.Tallies.{mark-same, mark-stratum, mark-label, mark-cases}

-- two places of the rows are one only where stratum and label are the same
place-one : (g s s₀ j j₀ : ℕ) → j < g → j₀ < g → s * g + j ≡ s₀ * g + j₀ → (s ≡ s₀) × (j ≡ j₀)
place-one g s s₀ j j₀ h h₀ e = (
  sym (digits_div s h) ∙ ap (λ (k : ℕ). k / g) e ∙ digits_div s₀ h₀,
  sym (digits_mod s h) ∙ ap (λ (k : ℕ). k % g) e ∙ digits_mod s₀ h₀,
)

-- to take one away at a place is to spend that label
pub left-spend : (g : ℕ) (counts : List ℕ) (s₀ j₀ : ℕ) → j₀ < g → s₀ * g + j₀ < length counts → (s j : ℕ) → j < g
    → left_in g (set counts (s₀ * g + j₀) (get_or counts (s₀ * g + j₀) 0 - 1)) s j ≡ spend (left_in g counts) s₀ j₀ s j
unfolding left_in spend
left-spend g counts s₀ j₀ h₀ b s j h =
    let p = s₀ * g + j₀ in
    let other : mark s₀ j₀ s j ≡ 0 → (s * g + j ≡ p → ⊥) → get_or (set counts p (get_or counts p 0 - 1)) (s * g + j) 0 ≡ get_or counts (s * g + j) 0 - mark s₀ j₀ s j
    = λ m d. get_or-set_other counts p (s * g + j) _ 0 d ∙ omega arith in elim (ℕ_discrete s s₀) [
      | yes q ↦ elim (ℕ_discrete j j₀) [
        | yes r ↦ rw (q, r) (get_or-set_same counts p _ 0 b ∙ ap (λ (k : ℕ). get_or counts p 0 - k) (sym (mark-same s₀ j₀ s₀ j₀ refl refl)))
        | no d ↦ other (mark-label s₀ j₀ s j d) (λ e. d (place-one g s s₀ j j₀ h h₀ e).1)
      ]
      | no d ↦ other (mark-stratum s₀ j₀ s j d) (λ e. d (place-one g s s₀ j j₀ h h₀ e).0)
    ]

-- ---- the rows at the start, filled sample by sample

pub length-tallies : (g : ℕ) (ss labels : List ℕ) (n : ℕ) → length (tallies g ss labels n) ≡ n
unfolding tallies
length-tallies g ss labels n = length-table _ n

get_or-tallies : (g : ℕ) (ss labels : List ℕ) (n p : ℕ) → p < n → get_or (tallies g ss labels n) p 0 ≡ tally ss labels (p / g) (p % g)
unfolding tallies
get_or-tallies g ss labels n p h = get_or-table _ n p 0 h

-- one sample more: one more at its place
module _ (g s j : ℕ) (counts : List ℕ) (h : j < g) (b : s * g + j < length counts) where
  more-at : (p : ℕ) → get_or (set counts (s * g + j) (get_or counts (s * g + j) 0 + 1)) p 0 ≡ mark s j (p / g) (p % g) + get_or counts p 0
  more-at p =
      let place = s * g + j in
      elim (ℕ_discrete p place) [
        | yes q ↦
            let here : mark s j (place / g) (place % g) ≡ 1 = mark-same s j _ _ (digits_div s h) (digits_mod s h) in
            rw q (get_or-set_same counts place _ 0 b ∙ omega arith)
        | no d ↦ ⊎_elim (λ w. absurd (d (sym (div-add-mod' p g) ∙ ap₂ (λ (a c : ℕ). a * g + c) w.0 w.1)))
            (λ z. get_or-set_other counts place p _ 0 d ∙ omega arith)
            (mark-cases s j (p / g) (p % g))
      ]

-- a list cleared is one of zeros
pub zeros-cleared : (old : List ℕ) {l : List ℕ} → l ≡ cleared 0 old → l ≡ cleared 0 l
unfolding cleared
zeros-cleared old e = e ∙ ap (λ (n : ℕ). replicate n 0) (sym (ap length e ∙ length-replicate (length old) 0))

-- ---- the walk from the first sample

-- rows for n strata are rows for those of every sample
pub rows-below : (g n : ℕ) (ss counts : List ℕ) → Below n ss → n * g ≤ length counts → HasRows g ss counts
unfolding HasRows
rows-below g n ss counts below h i l = le_trans (row-end g (get_or ss i 0) n (below i l)) h

-- a stratum that no sample has is counted nowhere
tally-other : (ss labels : List ℕ) (s j : ℕ) → (Member s ss → ⊥) → tally ss labels s j ≡ 0
unfolding tally
tally-other [] labels s j out = refl
tally-other (s₀ ∷ ss) [] s j out = refl
tally-other (s₀ ∷ ss) (j₀ ∷ l) s j out = omega (arith, mark-stratum s₀ j₀ s j (λ e. out (here e)), tally-other ss l s j (λ m. out (there m)))

row_of : (g : ℕ) (ss counts : List ℕ) (s : ℕ) → HasRows g ss counts → Member s ss → s * g + g ≤ length counts
unfolding HasRows
row_of g [] counts s rows m = absurd (not-nil m)
row_of g (x ∷ ss) counts s rows m = ⊎_elim (λ e. subst (λ (t : ℕ). t * g + g ≤ length counts) (sym e) (rows 0 (omega arith)))
    (λ t. row_of g ss counts s (λ i h. rows (suc i) (suc-le-suc h)) t) (cases_cons m)

-- the rows at the start hold the counts
pub left-tallies : (g : ℕ) (ss labels counts : List ℕ) → HasRows g ss counts → (s j : ℕ) → j < g → left_in g (tallies g ss labels (length counts)) s j ≡ tally ss labels s j
unfolding left_in
left-tallies g ss labels counts rows s j h = elim (dec_lt (s * g + j) (length counts)) [
  | yes b ↦ get_or-tallies g ss labels (length counts) (s * g + j) b
      ∙ ap₂ (tally ss labels) (digits_div s h) (digits_mod s h)
  | no b ↦ List·get_or-eq-default (tallies g ss labels (length counts)) 0 (omega (arith, length-tallies g ss labels (length counts)))
      ∙ sym (tally-other ss labels s j (λ m. b (omega (arith, row_of g ss counts s rows m))))
]

-- From the rows at the start, the walk from the first sample is over all ways.
pub onward-ways : (g : ℕ) (ss labels counts : List ℕ) → HasRows g ss counts → {filled : List ℕ} → filled ≡ tallies g ss labels (length counts) →
    onward g ss filled 0 ≡ ways_of g ss labels
unfolding onward ways_of
onward-ways g ss labels counts rows {filled} e = ap (λ (t : List ℕ). deal g ss (left_in g t)) e ∙ deal-cong g ss _ _ (left-tallies g ss labels counts rows)

-- ---- the loop of `fill_counts`: after k turns the rows count the first k samples

pub record Filling (g : ℕ) (ss labels counts₀ counts : List ℕ) (k : ℕ) : Type 0 where
  pub fits : length labels ≡ length ss
  pub below : Below g labels
  pub rows : HasRows g ss counts₀
  pub most : k ≤ length ss
  pub long : length counts ≡ length counts₀
  pub left : (p : ℕ) → p < length counts₀ → get_or counts p 0 + tally (drop k ss) (drop k labels) (p / g) (p % g) ≡ tally ss labels (p / g) (p % g)

pub filling-none : (g : ℕ) (ss labels counts : List ℕ) → length labels ≡ length ss → Below g labels → HasRows g ss counts → counts ≡ cleared 0 counts
    → Filling g ss labels counts counts 0
unfolding cleared
filling-none g ss labels counts fits below rows zeros = record {
  fits = fits;
  below = below;
  rows = rows;
  most = omega arith;
  long = refl;
  left = λ p h. omega (arith, ap (λ (l : List ℕ). get_or l p 0) zeros, get_or-replicate {A = ℕ} (length counts) p 0 0 h);
}

module _ {g : ℕ} {ss labels counts₀ counts : List ℕ} {k : ℕ} (f : Filling g ss labels counts₀ counts k) where
  -- sample k, of stratum s and label j, is counted in its stratum's row, where at most the number of samples stands
  pub filling-place : {s j : ℕ} → k < length ss → s ≡ get_or ss k 0 → j ≡ get_or labels k 0 → s * g + j < length counts₀
  unfolding HasRows
  filling-place {s} {j} more es ej =
      let fits = f.fits in omega (arith, f.rows k more, f.below k (omega arith), ap (λ (n : ℕ). n * g) es)

  pub filling-small : (p : ℕ) → p < length counts₀ → get_or counts p 0 ≤ length ss
  filling-small p h = omega (arith, f.left p h, tally-le ss labels (p / g) (p % g))

  pub filling-next : {s j n : ℕ} → k < length ss → s ≡ get_or ss k 0 → j ≡ get_or labels k 0 → n ≡ k + 1
      → Filling g ss labels counts₀ (set counts (s * g + j) (get_or counts (s * g + j) 0 + 1)) n
  filling-next {s} {j} {n} more es ej en =
      let fits = f.fits in
      let below : j < g = omega (arith, f.below k (omega arith)) in
      let inside : s * g + j < length counts = omega (arith, filling-place more es ej, f.long) in
      subst (Filling g ss labels counts₀ (set counts (s * g + j) (get_or counts (s * g + j) 0 + 1))) (sym en) (record {
        fits = fits;
        below = f.below;
        rows = f.rows;
        most = omega arith;
        long = length-set counts (s * g + j) (get_or counts (s * g + j) 0 + 1) ∙ f.long;
        left = λ p h. omega (
          arith,
          f.left p h,
          more-at g s j counts below inside p,
          tally-step ss labels k fits more (p / g) (p % g),
          ap₂ (λ (a b : ℕ). mark a b (p / g) (p % g)) es ej,
        );
      })

  pub filling-all : length ss ≤ k → counts ≡ tallies g ss labels (length counts₀)
  filling-all done =
      let end : k ≡ length ss = omega (arith, f.most) in
      ext_get_or 0 counts (tallies g ss labels (length counts₀)) (f.long ∙ sym (length-tallies g ss labels (length counts₀))) (λ p h.
      let inside : p < length counts₀ = omega (arith, f.long) in
      omega (arith, f.left p inside, tally-end ss labels k (p / g) (p % g) end, get_or-tallies g ss labels (length counts₀) p inside))
