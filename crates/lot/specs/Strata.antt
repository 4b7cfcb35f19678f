-- Section 2: strata of the kept samples, and which of them inform. Definitions only.
use Rattle.std.specs.Prelude.{ℕ, ◌+◌, Bool, not, cond, List, map, eqb, length, get_or, take, Float}
use Rattle.float.specs.Floats.{◌⊘◌, num}
use Rattle.lists.specs.Ranges.{range, table}
use Rattle.lists.specs.Filters.{filter, count_if, any}
use Rattle.lists.specs.Numbers.{how_many, position, dedup, members}
use Rattle.limits.specs.Limits.{none}
use Rattle.lot.specs.Lot.{Lot}
use Rattle.lot.specs.Kept.{kept, gathered, groups, kept_count}

-- the strata that these samples name, by first appearance
unfoldable pub named : List ℕ → List ℕ
named held = dedup (filter (λ s. not (eqb s none)) held)

-- Numbers are given by first appearance; a sample with none stands alone, after all named ones.
unfoldable pub numbered : List ℕ → List ℕ
numbered held =
    let ns = named held in
    table (length held) (λ k. cond (eqb (get_or held k none) none) (length ns + how_many none (take k held)) (position (get_or held k none) ns))

-- what the kept samples hold as their strata
unfoldable pub held_strata : Lot → List ℕ
held_strata lot = gathered lot.strata (kept lot.labels)

-- the stratum of each kept sample, and how many strata there are: without strata all share one
unfoldable pub strata : Lot → List ℕ
strata lot = cond lot.stratified (numbered (held_strata lot)) (map (λ i. 0) (kept lot.labels))

unfoldable pub strata_count : Lot → ℕ
strata_count lot = cond lot.stratified (length (named (held_strata lot)) + how_many none (held_strata lot)) 1

-- A stratum informs if it holds two kept labels: two of its samples differ. ss and groups have one entry for each of m kept samples.
unfoldable pub informs : List ℕ → List ℕ → ℕ → ℕ → Bool
informs ss groups m s =
    let part = members ss m s in
    any (λ a. any (λ b. not (eqb (get_or groups a 0) (get_or groups b 0))) part) part

-- the samples in such strata, and their part of m
unfoldable pub informative : List ℕ → List ℕ → ℕ → ℕ
informative ss groups m = count_if (λ k. informs ss groups m (get_or ss k 0)) (range 0 m)

unfoldable pub informative_count : Lot → ℕ
informative_count lot = informative (strata lot) (groups lot.labels) (kept_count lot.labels)

unfoldable pub fraction : Lot → Float
fraction lot = num (informative_count lot) ⊘ num (kept_count lot.labels)
