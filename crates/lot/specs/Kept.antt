-- Section 2: kept samples, their labels and groups. Definitions only.
use Rattle.std.specs.Prelude.{ℕ, Bool, not, ◌&&◌, cond, List, map, eqb, leb, length, get_or}
use Rattle.lists.specs.Ranges.{range, table}
use Rattle.lists.specs.Filters.{filter, any}
use Rattle.lists.specs.Numbers.{how_many, contains, position, upward, members}
use Rattle.limits.specs.Limits.{none}

-- Labels seen fewer than twice drop out.
unfoldable pub twice : List ℕ → ℕ → Bool
twice labels l = not (eqb l none) && leb 2 (how_many l labels)

-- labels left out: some label is held by one sample
unfoldable pub left_out : List ℕ → Bool
left_out labels = any (λ l. not (eqb l none) && eqb (how_many l labels) 1) labels

-- the kept samples, in order
unfoldable pub kept : List ℕ → List ℕ
kept labels = filter (λ i. twice labels (get_or labels i none)) (range 0 (length labels))

-- what the samples at these places hold
unfoldable pub gathered : List ℕ → List ℕ → List ℕ
gathered values places = map (λ i. get_or values i none) places

-- the labels of the kept samples
unfoldable pub kept_labels : List ℕ → List ℕ
kept_labels labels = gathered labels (kept labels)

-- their labels without repeats, upward: the group j is the label at place j
unfoldable pub group_labels : List ℕ → List ℕ
group_labels labels = upward (kept_labels labels)

-- the group of each kept sample
unfoldable pub groups : List ℕ → List ℕ
groups labels = let ns = group_labels labels in map (λ l. position l ns) (kept_labels labels)

-- the group of each of the n samples, or none
unfoldable pub group_each : List ℕ → List ℕ
group_each labels = let ns = group_labels labels in map (λ l. cond (contains l ns) (position l ns) none) labels

-- m and g
unfoldable pub kept_count : List ℕ → ℕ
kept_count labels = length (kept labels)

unfoldable pub group_count : List ℕ → ℕ
group_count labels = length (group_labels labels)

-- how many samples each of g groups has
unfoldable pub sizes : List ℕ → ℕ → ℕ → List ℕ
sizes groups m g = table g (λ j. length (members groups m j))
