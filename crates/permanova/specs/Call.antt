-- A whole call of `test`: its answer, and what all that is lent holds afterwards (section 8, and below the table). Definitions only.
use Rattle.std.specs.Prelude.{ℕ, ◌*◌, Bool, List, [], ◌∷◌, ltb, length, Float, Result}
use Rattle.limits.specs.Limits.{most_shuffles}
use Rattle.float.specs.Floats.{zero⁺}
use Rattle.outcome.specs.declared.Refusal.{Refusal}
use Rattle.outcome.specs.Numbers.{outcome_of}
use Rattle.outcome.specs.Refusals.{first, short}
use Rattle.outcome.specs.Outcome.{Outcome, answered, judged, Told}
use Rattle.outcome.specs.Slices.{output, work}
use Rattle.lot.specs.Lot.{Lot}
use Rattle.lot.specs.Kept.{group_labels, groups, kept_count, group_count}
use Rattle.lot.specs.Lines.{test_lines}
use Rattle.permanova_dispersion.specs.Anova.{mean_z}
use Rattle.permanova_statistics.specs.Statistics.{z_of}
use Rattle.permanova_statistics.specs.Warnings.{sizes_of}
use Rattle.permanova_sampling.specs.declared.TestResult.{TestResult}
use Rattle.permanova_sampling.specs.Tested.{tested}

-- What is lent: outputs for g labels, counts and mean z, and work for the terms and the weighted squares.
pub record Slices : Type 0 where
  pub labels : List ℕ
  pub counts : List ℕ
  pub means : List Float
  pub pair_terms : List Float
  pub weighted_squares : List Float

abbrev pub slices_of : List ℕ → List ℕ → List Float → List Float → List Float → Slices
slices_of labels counts means pair_terms weighted_squares = record { labels = labels; counts = counts; means = means; pair_terms = pair_terms; weighted_squares = weighted_squares }

-- what is asked of their lengths for n samples: an output n entries, a work slice n by n
abbrev pub test_asks : ℕ → List ℕ
test_asks n = n ∷ n ∷ n ∷ n * n ∷ n * n ∷ []

-- line 1, for slices of these lengths
unfoldable pub too_short : ℕ → ℕ → ℕ → ℕ → ℕ → ℕ → Bool
too_short n labels counts means pair_terms weighted_squares = short (labels ∷ counts ∷ means ∷ pair_terms ∷ weighted_squares ∷ []) (test_asks n)

-- what the table says of a call
unfoldable pub test_check : Lot → ℕ → Slices → Told
test_check lot n before =
    first
    (test_lines lot
    (too_short lot.n (length before.labels) (length before.counts) (length before.means) (length before.pair_terms) (length before.weighted_squares))
    (ltb most_shuffles n))

-- the answer, and the slices afterwards
pub record Called : Type 0 where
  pub answer : Outcome TestResult
  pub after : Slices

-- what a call leaves, by its outcome
unfoldable pub leaves : Lot → Outcome TestResult → Slices → Called
leaves lot o before =
    let observed = groups lot.labels in
    let m = kept_count lot.labels in
    let g = group_count lot.labels in
    record {
      answer = o;
      after = record {
        labels = output 0 (λ _. group_labels lot.labels) g o before.labels;
        counts = output 0 (λ _. sizes_of lot) g o before.counts;
        means = output zero⁺ (λ _. mean_z (z_of lot observed) observed m g) g o before.means;
        pair_terms = work zero⁺ o before.pair_terms;
        weighted_squares = work zero⁺ o before.weighted_squares;
      };
    }

-- the meaning of a call of `test`, for any arguments
unfoldable pub test_call : Lot → ℕ → ℕ → Slices → Called
test_call lot seed n before = leaves lot (judged (test_check lot n before) (answered (tested lot seed n))) before

-- ---- how a contract says it: what is returned, and what the slices hold

abbrev pub answer_of : Result TestResult Refusal → Outcome TestResult
answer_of r = outcome_of r

abbrev pub called : Result TestResult Refusal → Slices → Called
called r after = record { answer = answer_of r; after = after }
