-- Section 4: the centred Gram matrix of sets of hashes, each a list in which repeats count. Definitions only.
use Rattle.std.specs.Prelude.{ℕ, min, max, ◌&&◌, List, [], map, get_or, Float}
use Rattle.std.specs.Float.{nan}
use Rattle.float.specs.Floats.{◌⊕◌, ◌⊖◌, ◌⊗◌, num}
use Rattle.lists.specs.Ranges.{grid}
use Rattle.lists.specs.Filters.{filter, count_if}
use Rattle.lists.specs.Numbers.{contains}
use Rattle.lists.specs.Sums.{sum⁻}
use Rattle.ordination_hashes.specs.Selected.{selected, frequency}
use Rattle.ordination_sets.specs.Sets.{sets}

-- the sum of the means over a set's selected hashes, in the set's order, repeats included
unfoldable pub mean_sum : ℕ → List ℕ → List ℕ → List ℕ → Float
mean_sum n hashes chosen s = sum⁻ (map (frequency n hashes) (filter (λ h. contains h chosen) s))

-- how many selected hashes two sets share
unfoldable pub shared : List ℕ → List ℕ → List ℕ → ℕ
shared chosen s t = count_if (λ h. contains h s && contains h t) chosen

-- shared - mean sum - mean sum + sum of squared means, for i ≤ j; mirrored
unfoldable pub gram : ℕ → List ℕ → List ℕ → List Float
gram n hashes offsets =
    let chosen = selected n hashes in
    let means = map (frequency n hashes) chosen in
    let t = sum⁻ (map (λ x. x ⊗ x) means) in
    let ss = sets n hashes offsets in
    let sums = map (mean_sum n hashes chosen) ss in
    let upper : ℕ → ℕ → Float = λ i j. num (shared chosen (get_or ss i []) (get_or ss j [])) ⊖ get_or sums i nan ⊖ get_or sums j nan ⊕ t in
    grid n n (λ i j. upper (min i j) (max i j))
