-- A whole call of `exhaustive`: its answer, and what all that is lent holds afterwards (section 6, and below the table). Definitions only.
use Rattle.std.specs.Prelude.{ℕ, ◌+◌, ◌*◌, ◌≤◌, Bool, false, List, [], ◌∷◌, ◌++◌, ltb, length, Float, Result}
use Rattle.limits.specs.Limits.{judged_components, most_ways}
use Rattle.float.specs.Floats.{zero⁺}
use Rattle.outcome.specs.Numbers as numbers
use Rattle.outcome.specs.Refusals.{Line, ◌when◌, first, short}
use Rattle.outcome.specs.Outcome.{Outcome, judged}
use Rattle.outcome.specs.Slices.{output, work}
use Rattle.lot.specs.Lot.{Lot}
use Rattle.lot.specs.Kept.{group_labels, groups, kept_count, group_count}
use Rattle.lot.specs.Lines.{test_lines}
use Rattle.permanova_dispersion.specs.Anova.{mean_z}
use Rattle.permanova_statistics.specs.Statistics.{z_of}
use Rattle.permanova_statistics.specs.Warnings.{sizes_of}
use Rattle.exhaustive_ways.specs.Ways.{way_count}
use Rattle.exhaustive_hits.specs.declared.judgement.Judgement.{Judgement}
use Rattle.outcome.specs.declared.Refusal.{Refusal}
use Rattle.exhaustive_hits.specs.Exhaustive.{exhaustive}

-- What is lent: outputs for g labels, counts and mean z; work for the terms, the weighted squares, the coordinates, the ordination and its vectors, and for the label
-- counts of each stratum.
pub record Slices : Type 0 where
  pub labels : List ℕ
  pub counts : List ℕ
  pub means : List Float
  pub pair_terms : List Float
  pub weighted_squares : List Float
  pub coords : List Float
  pub eigenpairs : List Float
  pub vectors : List Float
  pub label_counts : List ℕ

-- what is asked of their lengths for n samples: an output n entries, work n by n; coordinates what `pcoa` takes for 8 components, and the ordination n more
abbrev pub exhaustive_asks : ℕ → List ℕ
exhaustive_asks n = n ∷ n ∷ n ∷ n * n ∷ n * n ∷ (judged_components + judged_components + judged_components * n) ∷ (n + n * n) ∷ n * n ∷ n * n ∷ []

abbrev pub lengths_of : Slices → List ℕ
lengths_of s =
    length s.labels
    ∷ length s.counts
    ∷ length s.means
    ∷ length s.pair_terms
    ∷ length s.weighted_squares
    ∷ length s.coords
    ∷ length s.eigenpairs
    ∷ length s.vectors
    ∷ length s.label_counts
    ∷ []

-- line 1
unfoldable pub too_short : ℕ → Slices → Bool
too_short n s = short (lengths_of s) (exhaustive_asks n)

-- lines 1 to 5, with 14 after 3, and 8
unfoldable pub exhaustive_lines : Lot → Slices → List Line
exhaustive_lines lot s = test_lines lot (too_short lot.n s) false ++ ((8 when ltb most_ways (way_count lot)) ∷ [])

-- the answer, and the slices afterwards
pub record Called : Type 0 where
  pub answer : Outcome Judgement
  pub after : Slices

-- a call by its outcome: the answer lists these labels, counts and means, of g groups
unfoldable pub call_in : List ℕ → List ℕ → List Float → ℕ → Outcome Judgement → Slices → Called
call_in labels counts means g o before =
    record {
      answer = o;
      after = record {
        labels = output 0 (λ _. labels) g o before.labels;
        counts = output 0 (λ _. counts) g o before.counts;
        means = output zero⁺ (λ _. means) g o before.means;
        pair_terms = work zero⁺ o before.pair_terms;
        weighted_squares = work zero⁺ o before.weighted_squares;
        coords = work zero⁺ o before.coords;
        eigenpairs = work zero⁺ o before.eigenpairs;
        vectors = work zero⁺ o before.vectors;
        label_counts = work 0 o before.label_counts;
      };
    }

-- of a lot: g labels, counts, and mean z of the observed way
unfoldable pub call_by : Lot → Outcome Judgement → Slices → Called
call_by lot o before =
    let observed = groups lot.labels in
    let m = kept_count lot.labels in
    let g = group_count lot.labels in
    call_in (group_labels lot.labels) (sizes_of lot) (mean_z (z_of lot observed) observed m g) g o before

-- the outcome for any arguments, and the meaning of a call
unfoldable pub outcome_of : Lot → Slices → Outcome Judgement
outcome_of lot before = judged (first (exhaustive_lines lot before)) (exhaustive lot)

unfoldable pub exhaustive_call : Lot → Slices → Called
exhaustive_call lot before = call_by lot (outcome_of lot before) before

-- ---- how a contract says it: what is returned, and what the slices hold

abbrev pub slices_of : List ℕ → List ℕ → List Float → List Float → List Float → List Float → List Float → List Float → List ℕ → Slices
slices_of labels counts means pair_terms weighted_squares coords eigenpairs vectors label_counts =
    record { labels = labels; counts = counts; means = means; pair_terms = pair_terms; weighted_squares = weighted_squares; coords = coords; eigenpairs = eigenpairs; vectors = vectors; label_counts = label_counts }

abbrev pub answer_of : Result Judgement Refusal → Outcome Judgement
answer_of r = numbers.outcome_of r

abbrev pub called : Result Judgement Refusal → Slices → Called
called r after = record { answer = answer_of r; after = after }

-- ---- the second slices are no shorter than the first, one by one
pub record NoShorter (s t : Slices) : Type 0 where
  pub labels : length s.labels ≤ length t.labels
  pub counts : length s.counts ≤ length t.counts
  pub means : length s.means ≤ length t.means
  pub pair_terms : length s.pair_terms ≤ length t.pair_terms
  pub weighted_squares : length s.weighted_squares ≤ length t.weighted_squares
  pub coords : length s.coords ≤ length t.coords
  pub eigenpairs : length s.eigenpairs ≤ length t.eigenpairs
  pub vectors : length s.vectors ≤ length t.vectors
  pub label_counts : length s.label_counts ≤ length t.label_counts
