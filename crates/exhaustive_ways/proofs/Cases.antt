-- Judged samples of the trade: cases g and i, and the example of section 7, each by its M.
use Rattle.lists.proofs.Base.{◌≡◌, refl, true, false, List, [], ◌∷◌, ◌++◌, ℕ, ◌+◌, length, replicate, Float}
use Rattle.lists.specs.{Ranges.up_from, Ranges.range, Ranges.table, Ranges.rows, Filters.filter, Filters.count_if, Filters.any, Filters.first_at}
use Rattle.lists.specs.Numbers.{productℕ, factorial, how_many, contains, position, dedup, insert_up, upward}
use Rattle.lot.specs.{Lot.Lot, Lot.lot_of, Kept.twice, Kept.kept, Kept.gathered, Kept.kept_labels, Kept.group_labels, Kept.groups, Kept.group_count}
use Rattle.lot.specs.{Strata.named, Strata.numbered, Strata.held_strata, Strata.strata, Way.δ, Way.mark, Way.tally}
use Rattle.exhaustive_ways.specs.Ways.{spend, deal, ways_of, ways, size_factorials, label_factorials, way_count_of, way_count}
use Rattle.exhaustive_ways.specs.inner.Ways.{capped}

-- whatever the distances d
module _ (d : List Float) where
  -- labels 0,0,1,1 with strata 0,0,1,1, and without
  abbrev pub within : Lot
  within = lot_of 4 d (0 ∷ 0 ∷ 1 ∷ 1 ∷ []) true (0 ∷ 0 ∷ 1 ∷ 1 ∷ []) false []

  abbrev pub example : Lot
  example = lot_of 4 d (0 ∷ 0 ∷ 1 ∷ 1 ∷ []) false [] false []

  -- k of one label and k of another in one stratum
  abbrev pub halves : ℕ → Lot
  halves k = lot_of (k + k) d (replicate k 0 ++ replicate k 1) false [] false []

  pub cases : way_count within ∷ way_count example ∷ way_count (halves 8) ∷ way_count (halves 9) ∷ [] ≡ 1 ∷ 6 ∷ 12870 ∷ 48620 ∷ []
  unfolding way_count way_count_of size_factorials label_factorials productℕ factorial how_many count_if upward insert_up tally mark δ groups group_labels
      kept_labels gathered kept filter twice range up_from position first_at strata numbered named dedup held_strata contains any table
  cases = refl

  -- and the ways of the first two, by their number
  pub walked : length (ways within) ∷ length (ways example) ∷ [] ≡ 1 ∷ 6 ∷ []
  unfolding ways ways_of deal spend rows group_count how_many count_if upward insert_up tally mark δ groups group_labels kept_labels gathered kept filter
      twice range up_from position first_at strata numbered named dedup held_strata contains any table
  walked = refl

  -- 9 and 9 are above 20,000
  pub too_many : capped (way_count (halves 9)) ≡ 20001
  unfolding capped way_count way_count_of size_factorials label_factorials productℕ factorial how_many count_if upward insert_up tally mark δ groups
      group_labels kept_labels gathered kept filter twice range up_from position first_at strata
  too_many = refl
