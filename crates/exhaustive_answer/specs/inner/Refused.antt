-- A call that is turned away once lines 1 to 9 let it pass. Definitions only.
use Rattle.std.specs.Prelude.{ℕ, replicate}
use Rattle.float.specs.Floats.{zero⁺}
use Rattle.lists.specs.Writes.{over, cleared}
use Rattle.outcome.specs.Outcome.{refused}
use Rattle.exhaustive_hits.specs.Call.{Slices, Called}

-- 11: the outputs' first part and all work are zero
unfoldable pub turned : ℕ → ℕ → Slices → Called
turned g r before = record {
  answer = refused r;
  after = record {
    labels = over (replicate g 0) before.labels;
    counts = over (replicate g 0) before.counts;
    means = over (replicate g zero⁺) before.means;
    pair_terms = cleared zero⁺ before.pair_terms;
    weighted_squares = cleared zero⁺ before.weighted_squares;
    coords = cleared zero⁺ before.coords;
    eigenpairs = cleared zero⁺ before.eigenpairs;
    vectors = cleared zero⁺ before.vectors;
    label_counts = cleared 0 before.label_counts;
  };
}
