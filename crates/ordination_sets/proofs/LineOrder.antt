-- The lines of `gram_matrix` and `hash_pca`: their order, and which of them tells a short lot, an empty catch and a lot that is too wide.
use Rattle.lists.proofs.Base.{◌≡◌, refl, Bool, false, ◌||◌, List, [], ◌∷◌, map, ℕ, ◌<◌, ◌≤◌, length, ltb, lt-ltb, le-ltb, eq-eqb, ne_eqb, arith}
use Rattle.limits.specs.Limits.{most_hashes, most_samples}
use Rattle.outcome.specs.{Refusals.Line, Refusals.first, Outcome.refused, Outcome.passed}
use Rattle.ordination_hashes.specs.Selected.{selected}
use Rattle.ordination_sets.specs.Lines.{bad_offsets, gram_lines, early_lines, late_lines}

module _ (n : ℕ) (hashes offsets : List ℕ) (short beyond : Bool) where
  -- their numbers, in the order in which they are tested
  pub tested-in-order : map (λ (l : Line). l.returned) (gram_lines n hashes offsets short beyond) ≡ 1 ∷ 2 ∷ 6 ∷ 13 ∷ 7 ∷ []
  unfolding gram_lines early_lines late_lines
  tested-in-order = refl

  -- where lines 1 and 2 pass
  module _ (fit : (bad_offsets n (length hashes) offsets || short) ≡ false) (limited : (ltb most_samples n || ltb most_hashes (length hashes) || beyond) ≡ false) where
    -- fewer than three samples is 6 whatever the hashes are
    pub few-samples : n < 3 → first (gram_lines n hashes offsets short beyond) ≡ refused 6
    unfolding gram_lines early_lines late_lines first
    few-samples h = rw (fit, limited, lt-ltb n 3 h)

    -- three samples and more without a hash to select is 13
    pub empty-catch : 3 ≤ n → length (selected n hashes) ≡ 0 → first (gram_lines n hashes offsets short beyond) ≡ refused 13
    unfolding gram_lines early_lines late_lines first
    empty-catch h none = rw (fit, limited, le-ltb n 3 h, eq-eqb _ 0 none)

    -- 1 to 1,024 hashes to select pass
    pub widest-passes : 3 ≤ n → 1 ≤ length (selected n hashes) → length (selected n hashes) ≤ 1024 → first (gram_lines n hashes offsets short beyond) ≡ passed
    unfolding gram_lines early_lines late_lines first
    widest-passes h some most = rw (fit, limited, le-ltb n 3 h, ne_eqb (length (selected n hashes)) 0 (λ none. omega arith), le-ltb 1024 _ most)

    -- 1,025 and more are 7
    pub too_wide : 3 ≤ n → 1025 ≤ length (selected n hashes) → first (gram_lines n hashes offsets short beyond) ≡ refused 7
    unfolding gram_lines early_lines late_lines first
    too_wide h wide = rw (fit, limited, le-ltb n 3 h, ne_eqb (length (selected n hashes)) 0 (λ none. omega arith), lt-ltb 1024 _ wide)
