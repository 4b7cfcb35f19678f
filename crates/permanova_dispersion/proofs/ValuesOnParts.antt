-- What is worked out from the parts of a list of members is what the groups have.
use Rattle.lists.proofs.Base.{◌≡◌, List, ℕ, ◌<◌, arith, length, get_or, Float}
use Rattle.lists.specs.{Ranges.table, Numbers.members, Writes.over}
use Rattle.lists.specs.inner.Numbers.{Below}
use Rattle.lists.proofs.Ranges.{table-ext}
use Rattle.grouping.specs.inner.Parts.{part, Grouped}
use Rattle.permanova_sums.specs.PairSums.{at}
use Rattle.permanova_location.specs.Location.{group_weight}
use Rattle.permanova_dispersion.specs.Dispersion.{inside, value, values}
use Rattle.permanova_dispersion.specs.inner.Parted.{value_by}
use Rattle.permanova_dispersion.proofs.AnovaOnParts.{written}

module _ (lab : List ℕ) (m g : ℕ) (next mem : List ℕ) (s : Grouped lab m g next mem) where
  module _ (p t w gw₀ gi₀ gw gi : List Float) (long : length lab ≡ m) (below : Below g lab)
      (weights : gw ≡ over (table g (λ k. group_weight w (part next mem k))) gw₀) (insides : gi ≡ over (table g (λ k. inside t m (part next mem k))) gi₀) where
    value-is : (a : ℕ) → a < m → value_by p lab m next mem gw gi a ≡ value p t w m (members lab m (get_or lab a 0)) a
    unfolding value_by value
    value-is a h =
        let l = get_or lab a 0 in
        let k : l < g = below a (omega arith) in
        let in-part : part next mem l ≡ members lab m l = s.are l k in
        let gw-is : at gw l ≡ group_weight w (part next mem l) = written (λ k. group_weight w (part next mem k)) g l gw₀ weights k in
        let gi-is : at gi l ≡ inside t m (part next mem l) = written (λ k. inside t m (part next mem k)) g l gi₀ insides k in
        rw (gw-is, gi-is, in-part)

    pub values-are : table m (value_by p lab m next mem gw gi) ≡ values p t w lab m
    unfolding values
    values-are = table-ext (value_by p lab m next mem gw gi) (λ a. value p t w m (members lab m (get_or lab a 0)) a) m value-is
