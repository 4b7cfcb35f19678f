-- What the functions that describe a lot leave in lent slices. Statements only.
use Rattle.std.specs.Prelude.{◌≡◌, ℕ, ◌+◌, ◌≤◌, Bool, true, false, cond, List, [], map, length}
use Rattle.limits.specs.Limits.{most_samples, none}
use Rattle.lists.specs.Numbers.{how_many}
use Rattle.lists.specs.Writes.{over}
use Rattle.lot.specs.declared.Sizes.{Sizes}
use Rattle.lot.specs.declared.Shape.{Shape}
use Rattle.lot.specs.Lot.{Lot, lot_of}
use Rattle.lot.specs.inner.Filled.{Filled}
use Rattle.lot.specs.Kept.{kept, gathered, group_labels, groups}
use Rattle.lot.specs.Strata.{named, numbered, strata, strata_count}

-- a lot of which only labels and strata are told: kept samples, groups and strata ask no more
abbrev pub samples_of : List ℕ → Bool → List ℕ → Lot
samples_of labels stratified ss = lot_of 0 [] labels stratified ss false []

-- three slices held ks, ns, gs and hold ks', ns', gs': the kept samples, the groups' labels, each kept sample's group
pub record Grouped (labels : List ℕ) (sizes : Sizes) (ks ns gs ks' ns' gs' : List ℕ) : Type 0 where
  pub samples : Filled (kept labels) ks ks' sizes.kept
  pub labelled : Filled (group_labels labels) ns ns' sizes.groups
  pub grouped : gs' ≡ over (groups labels) gs

-- a slice held ss and holds ss', with the strata of the samples ks, of which there are r
pub record Stratified (stratified : Bool) (given ks ss ss' : List ℕ) (r : ℕ) : Type 0 where
  pub numbers : ss' ≡ over (cond stratified (numbered (gathered given ks)) (map (λ i. 0) ks)) ss
  pub count : r ≡ cond stratified (length (named (gathered given ks)) + how_many none (gathered given ks)) 1

-- at most 256 samples, a stratum for each where strata are given, and four slices with room for n numbers
pub record Room (lot : Lot) (ks ns gs ss : List ℕ) : Type 0 where
  pub few : length lot.labels ≤ most_samples
  pub strata_fit : lot.stratified ≡ true → length lot.strata ≡ length lot.labels
  pub samples_fit : length lot.labels ≤ length ks
  pub names_fit : length lot.labels ≤ length ns
  pub groups_fit : length lot.labels ≤ length gs
  pub numbers_fit : length lot.labels ≤ length ss

-- four slices held ks, ns, gs, ss and hold ks', ns', gs', ss': kept samples, groups' labels, each kept sample's group and stratum
pub record Described (lot : Lot) (shape : Shape) (ks ns gs ss ks' ns' gs' ss' : List ℕ) : Type 0 where
  pub samples : Filled (kept lot.labels) ks ks' shape.kept
  pub labelled : Filled (group_labels lot.labels) ns ns' shape.groups
  pub grouped : gs' ≡ over (groups lot.labels) gs
  pub stratified : ss' ≡ over (strata lot) ss
  pub strata_many : shape.strata ≡ strata_count lot
