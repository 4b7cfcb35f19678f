-- Section 2, the exact case: with weights 1 and whole distances up to 1,000 the pair sums before division equal the whole-number sums. Definitions and statements only.
use Rattle.std.specs.Prelude.{◌≡◌, Bool, false, not, ◌&&◌, ◌||◌, List, ℕ, ◌*◌, ◌^◌, ◌≤◌, leb, get_or, Float}
use Rattle.std.specs.Float.Ieee.{eq, to_unsigned}
use Rattle.float.specs.Floats.{◌⊘◌, num, 1·0, smallest_normal}
use Rattle.float.specs.Order.{larger}
use Rattle.lists.specs.Ranges.{range, table}
use Rattle.lists.specs.Filters.{any, pairs}
use Rattle.lists.specs.Numbers.{sumℕ, members}
use Rattle.lists.specs.Sums.{sum⁻}
use Rattle.lists.specs.Rows.{entry}
use Rattle.outcome.specs.Outcome as outcome
use Rattle.outcome.specs.Refusals.{first}
use Rattle.lot.specs.Lot.{Lot}
use Rattle.lot.specs.Kept.{kept, kept_count, group_count}
use Rattle.lot.specs.Lines.{test_lines}
use Rattle.permanova_sums.specs.Squares.{weights_of, pair_terms_of}
use Rattle.permanova_sums.specs.PairSums.{rows_sum, pair_sum}
use Rattle.permanova_location.specs.Location.{group_weight}
use Rattle.permanova_statistics.specs.Statistics.{total_of, within_of}

-- ---- the lots of the exact case

abbrev pub most : ℕ
most = 1000

-- a distance cut to a whole number, as by `as u64`
abbrev pub whole_of : Float → ℕ
whole_of d = to_unsigned 64 d

-- it is not whole, or above 1,000 (-0.0 is 0); a weight is not 1
abbrev pub not_whole : Float → Bool
not_whole d = not (eq d (num (whole_of d)) && leb (whole_of d) most)

abbrev pub not_one : Float → Bool
not_one w = not (eq w 1·0)

-- some distance is not whole or above 1,000, or some weight is not 1: of samples that are not kept too
unfoldable pub inexact : Lot → Bool
inexact lot = any not_whole lot.distances || (lot.weighted && any not_one lot.weights)

-- ---- their whole-number sums

-- the square of the distance between the kept samples a and b
unfoldable pub whole_square : Lot → ℕ → ℕ → ℕ
whole_square lot a b =
    let ks = kept lot.labels in
    let d = whole_of (entry lot.n lot.distances (get_or ks a 0) (get_or ks b 0)) in d * d

-- over all pairs of kept samples, and over those of the group j of a way
unfoldable pub whole_total : Lot → ℕ
whole_total lot = sumℕ (pairs (whole_square lot) (range 0 (kept_count lot.labels)))

unfoldable pub whole_within : Lot → List ℕ → ℕ → ℕ
whole_within lot way j = sumℕ (pairs (whole_square lot) (members way (kept_count lot.labels) j))

-- ---- the statement

-- x is the whole number n. f64 has every whole number up to 2 ^ 53, so `num` rounds none of these.
pub record Equals (x : Float) (n : ℕ) : Type 0 where
  pub same : x ≡ num n
  pub few : n ≤ 2 ^ 36

-- The pair sums of a lot, all of them and those of each group of any way, are the whole-number sums, and these are what `location` divides. None is -0.0:
-- two samples are kept, so some row has a term, and a group's sum starts at 0.0.
pub record Exact (lot : Lot) : Type 0 where
  pub rows : Equals (rows_sum (pair_terms_of lot) (kept_count lot.labels)) (whole_total lot)
  pub group : (way : List ℕ) (j : ℕ) → Equals (pair_sum (pair_terms_of lot) (kept_count lot.labels) (members way (kept_count lot.labels) j)) (whole_within lot way j)
  pub total : total_of lot ≡ num (whole_total lot) ⊘ sum⁻ (weights_of lot)
  pub within : (way : List ℕ) → within_of lot way
      ≡ sum⁻ (table (group_count lot.labels) (λ j. num (whole_within lot way j) ⊘ larger (group_weight (weights_of lot) (members way (kept_count lot.labels) j)) smallest_normal))

-- It holds for every lot that no line of the table turns away.
abbrev pub ExactSums : Type 0
ExactSums = (lot : Lot) (short beyond : Bool) → first (test_lines lot short beyond) ≡ outcome.passed → inexact lot ≡ false → Exact lot
