-- The lines of the table: what holds of sets that no line turns away.
use Rattle.lists.proofs.Base.{◌≡◌, sym, subst, Bool, false, not, ◌||◌, List, [], ◌∷◌, ℕ, zero, suc, ◌+◌, ◌-◌, ◌*◌, ◌<◌, ◌≤◌}
use Rattle.lists.proofs.Base.{le_refl, arith, eqb-true, eqb-false, ltb-false, not-false, eqb, ltb, length, get_or}
use Rattle.limits.specs.Limits.{most_samples, most_hashes, most_selected, selected_words}
use Rattle.outcome.specs.{Refusals.first, Outcome.answered, Outcome.passed, Outcome.judged}
use Rattle.outcome.proofs.{Table.first-passed, Table.judged-passes, Lengths.long-at}
use Rattle.ordination_hashes.specs.Selected.{selected}
use Rattle.ordination_sets.specs.inner.Offsets.{Offsets}
use Rattle.ordination_sets.specs.Lines.{falls, bad_offsets, gram_asks, too_short, gram_lines, early_lines, late_lines}
use Rattle.lists.proofs.{Truths.or-neither, Searches.any-no}

-- ---- offsets that are not bad

-- numbers that never fall
climbs : (o : ℕ → ℕ) (n : ℕ) → ((i : ℕ) → i < n → o i ≤ o (i + 1)) → (j k : ℕ) → j + k ≤ n → o j ≤ o (j + k)
climbs o n e j zero h = let same : j ≡ j + 0 = omega arith in subst (λ (k : ℕ). o j ≤ o k) same (le_refl (o j))
climbs o n e j (suc k) h =
    let next : j + k + 1 ≡ j + suc k = omega arith in
    subst (λ (i : ℕ). o j ≤ o i) next (omega (arith, climbs o n e j k (omega arith), e (j + k) (omega arith)))

pub offsets-fit : (n hashes : ℕ) (offsets : List ℕ) → bad_offsets n hashes offsets ≡ false → Offsets n offsets hashes
unfolding bad_offsets falls
offsets-fit n hashes offsets e =
    let o : ℕ → ℕ = λ i. get_or offsets i 0 in
    let wide = not (eqb (length offsets) (n + 1)) in
    let from = not (eqb (o 0) 0) in
    let to = not (eqb (o n) hashes) in
    let a = or-neither (wide || from || to) (falls n offsets) e in
    let b = or-neither (wide || from) to a.0 in
    let c = or-neither wide from b.0 in
    let last : o n ≡ hashes = eqb-true _ _ (not-false _ b.1) in
    let step : (i : ℕ) → i < n → o i ≤ o (i + 1) = λ i h. ltb-false (o (i + 1)) (o i) (any-no (λ i. ltb (o (i + 1)) (o i)) n a.1 i h) in
    record {
      entries = eqb-true _ _ (not-false _ c.0);
      climb = step;
      bound = λ i h. bounded o (i + 1) (climbs o n step (i + 1) (n - (i + 1)) (omega arith)) last (omega arith);
    }
  where
    bounded : (o : ℕ → ℕ) (j : ℕ) → o j ≤ o (j + (n - j)) → o n ≡ hashes → j ≤ n → o j ≤ hashes
    bounded o j h e g = let same : j + (n - j) ≡ n = omega arith in subst (λ (k : ℕ). o j ≤ k) e (subst (λ (k : ℕ). o j ≤ o k) same h)

-- ---- no line holds

pub record Accepted (n : ℕ) (hashes offsets : List ℕ) (short beyond : Bool) : Type 0 where
  pub sets : Offsets n offsets (length hashes)
  pub enough : short ≡ false
  pub limited : beyond ≡ false
  pub few : n ≤ most_samples
  pub bounded : length hashes ≤ most_hashes
  pub three : 3 ≤ n
  pub some : length (selected n hashes) ≡ 0 → ⊥
  pub most : length (selected n hashes) ≤ most_selected

pub accepted : (n : ℕ) (hashes offsets : List ℕ) (short beyond : Bool) → first (gram_lines n hashes offsets short beyond) ≡ passed → Accepted n hashes offsets short beyond
unfolding gram_lines early_lines late_lines
accepted n hashes offsets short beyond e =
    let m = length (selected n hashes) in
    let l₁ = first-passed _ _ (bad_offsets n (length hashes) offsets || short) (sym e) in
    let l₂ = first-passed _ _ (ltb most_samples n || ltb most_hashes (length hashes) || beyond) l₁.1 in
    let l₃ = first-passed _ _ (ltb n 3) l₂.1 in
    let l₆ = first-passed _ _ (eqb m 0) l₃.1 in
    let l₇ = first-passed _ _ (ltb most_selected m) l₆.1 in
    let a = or-neither (bad_offsets n (length hashes) offsets) short l₁.0 in
    let b = or-neither (ltb most_samples n || ltb most_hashes (length hashes)) beyond l₂.0 in
    let c = or-neither (ltb most_samples n) (ltb most_hashes (length hashes)) b.0 in
    record {
      sets = offsets-fit n (length hashes) offsets a.0;
      enough = a.1;
      limited = b.1;
      few = ltb-false _ _ c.0;
      bounded = ltb-false _ _ c.1;
      three = ltb-false _ _ l₃.0;
      some = eqb-false _ _ l₆.0;
      most = ltb-false _ _ l₇.0;
    }

-- sets that the lines pass which do not look at the hashes
pub early-passed : (n : ℕ) (hashes offsets : List ℕ) (short beyond : Bool) → first (early_lines n (length hashes) offsets short beyond) ≡ passed → (n ≤ most_samples) × (length hashes ≤ most_hashes)
unfolding early_lines
early-passed n hashes offsets short beyond e =
    let l₁ = first-passed _ _ (bad_offsets n (length hashes) offsets || short) (sym e) in
    let l₂ = first-passed _ _ (ltb most_samples n || ltb most_hashes (length hashes) || beyond) l₁.1 in
    let b = or-neither (ltb most_samples n || ltb most_hashes (length hashes)) beyond l₂.0 in
    let c = or-neither (ltb most_samples n) (ltb most_hashes (length hashes)) b.0 in (ltb-false _ _ c.0, ltb-false _ _ c.1)

-- an answer is a number of hashes only where the lines pass that look at them
pub late-passes : (m k : ℕ) → answered m ≡ judged (first (late_lines k)) (answered k) → (m ≡ k) × (k ≤ most_selected)
unfolding late_lines
late-passes m k e =
    let p = judged-passes (first (late_lines k)) m k e in
    let l₆ = first-passed _ _ (eqb k 0) (sym p.0) in
    let l₇ = first-passed _ _ (ltb most_selected k) l₆.1 in (p.1, ltb-false _ _ l₇.0)

-- slices that are not short
pub long-enough : (n out words : ℕ) → too_short n out words ≡ false → (n * n ≤ out) × (n * selected_words ≤ words)
unfolding too_short
long-enough n out words e = let at = long-at (out ∷ words ∷ []) (gram_asks n) e in (at 0 (omega arith) (omega arith), at 1 (omega arith) (omega arith))
