-- What the shuffles are made from, and what one of them leaves. Statements only.
use Rattle.std.specs.Prelude.{◌≡◌, List, ℕ, ◌*◌, ◌≤◌, length, Float}
use Rattle.limits.specs.Limits.{most_samples}
use Rattle.lists.specs.inner.Numbers.{Below}
use Rattle.grouping.specs.inner.Parts.{Parts, Grouped}
use Rattle.lot.specs.declared.Shape.{Shape}
use Rattle.lot_design.specs.declared.Design.{Design}
use Rattle.lot_design.specs.inner.Designs.{Sound}

-- terms, weights and observed z of m samples
pub record PairTerms (m : ℕ) (t w z : List Float) : Type 0 where
  pub pair_terms : length t ≡ m * m
  pub weights : length w ≡ m
  pub observed : length z ≡ m

-- a group for each sample
pub record Labelled (sizes : Shape) (lab : List ℕ) : Type 0 where
  pub labels : length lab ≡ sizes.kept
  pub groups : Below sizes.groups lab
  pub some : 1 ≤ sizes.groups
  pub enough : sizes.groups ≤ sizes.kept
  pub few : sizes.kept ≤ most_samples

-- and the members of the groups as parts of a list
pub record Assigned (sizes : Shape) (lab next mem : List ℕ) : Type 0 where
  pub labelled : Labelled sizes lab
  pub members : Grouped lab sizes.kept sizes.groups next mem

-- labels to shuffle, and the strata as parts of a list
pub record Sampling (sizes : Shape) (gs sn sm : List ℕ) : Type 0 where
  pub labelled : Labelled sizes gs
  pub strata : Parts sizes.kept sizes.strata sn sm

-- a shuffle left these labels, and the members of their groups
pub record ShufflesLabels (sizes : Shape) (dealt : List ℕ) (lab next mem : List ℕ) : Type 0 where
  pub shuffled : lab ≡ dealt
  pub assigned : Assigned sizes lab next mem

-- all of it by a design
pub record Drawing (d : Design) (t w z : List Float) : Type 0 where
  pub sound : Sound d
  pub over : PairTerms d.kept t w z
