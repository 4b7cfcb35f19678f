-- Section 6: a way, and a lot with another way's labels. Definitions and statements only.
use Rattle.std.specs.Prelude.{◌≡◌, ℕ, ◌+◌, ◌*◌, Bool, cond, List, [], ◌∷◌, eqb, length, get_or, drop}
use Rattle.lists.specs.Numbers.{how_many}
use Rattle.limits.specs.Limits.{none}
use Rattle.lot.specs.Lot.{Lot}
use Rattle.lot.specs.Kept.{twice, kept, group_labels, groups, kept_count}
use Rattle.lot.specs.Strata.{strata, strata_count, informative_count}

-- Kronecker's delta: 1 where a is b, and 0 elsewhere
unfoldable pub δ : ℕ → ℕ → ℕ
δ a b = cond (eqb a b) 1 0

-- 1 where the stratum s and the label j are s₀ and j₀, and 0 elsewhere
unfoldable pub mark : ℕ → ℕ → ℕ → ℕ → ℕ
mark s₀ j₀ s j = δ s s₀ * δ j j₀

-- how many samples of stratum s have the label j: ss and way have one entry for each kept sample
unfoldable pub tally : List ℕ → List ℕ → ℕ → ℕ → ℕ
tally [] way s j = 0
tally (s₀ ∷ ss) [] s j = 0
tally (s₀ ∷ ss) (j₀ ∷ way) s j = mark s₀ j₀ s j + tally ss way s j

-- A way gives the kept samples labels so that each stratum keeps its count of every label.
pub record IsWay (lot : Lot) (way : List ℕ) : Type 0 where
  pub labels_all : length way ≡ kept_count lot.labels
  pub keeps_counts : (s j : ℕ) → tally (strata lot) way s j ≡ tally (strata lot) (groups lot.labels) s j

-- A way put on the samples: f of its entries in turn at those whose label passes p, and h of the label at the others.
unfoldable pub on_kept : (ℕ → Bool) → (ℕ → ℕ) → (ℕ → ℕ) → List ℕ → List ℕ → List ℕ
on_kept p f h [] way = []
on_kept p f h (l ∷ ls) way =
    let put = f (get_or way 0 none) ∷ on_kept p f h ls (drop 1 way) in
    let stay = h l ∷ on_kept p f h ls way in
    cond (p l) put stay

-- The lot with a way's labels on the kept samples. Samples outside stay.
unfoldable pub relabelled : Lot → List ℕ → Lot
relabelled lot way =
    let ns = group_labels lot.labels in
    record {
      n = lot.n;
      distances = lot.distances;
      labels = on_kept (twice lot.labels) (λ j. get_or ns j none) (λ l. l) lot.labels way;
      stratified = lot.stratified;
      strata = lot.strata;
      weighted = lot.weighted;
      weights = lot.weights;
    }

-- What holds of a way handed in as the observed one: the same samples are kept, their labels are numbered alike, the strata and those that inform
-- are the same, and the groups are the way.
pub record SameLot (lot : Lot) (way : List ℕ) : Type 0 where
  pub same_length : length (relabelled lot way).labels ≡ length lot.labels
  pub same_counts : (l : ℕ) → how_many l (relabelled lot way).labels ≡ how_many l lot.labels
  pub same_kept : kept (relabelled lot way).labels ≡ kept lot.labels
  pub same_names : group_labels (relabelled lot way).labels ≡ group_labels lot.labels
  pub same_strata : strata (relabelled lot way) ≡ strata lot
  pub same_strata_count : strata_count (relabelled lot way) ≡ strata_count lot
  pub same_informative : informative_count (relabelled lot way) ≡ informative_count lot
  pub groups_are : groups (relabelled lot way).labels ≡ way
