-- What a design says, and of which lot it is the design. Definitions and statements only.
use Rattle.std.specs.Prelude.{◌≡◌, true, List, ℕ, ◌≤◌, length, take}
use Rattle.limits.specs.Limits.{most_samples}
use Rattle.lists.specs.inner.Numbers.{Below}
use Rattle.lot.specs.Lot.{Lot}
use Rattle.lot.specs.Kept.{left_out, kept, group_labels, groups, kept_count, group_count}
use Rattle.lot.specs.Strata.{strata, strata_count, informative_count}
use Rattle.lot_design.specs.declared.Design.{Design}

-- the kept samples, the groups' labels, and the group and the stratum of each kept sample
abbrev pub kept_of : Design → List ℕ
kept_of d = take d.kept d.samples

abbrev pub group_labels_of : Design → List ℕ
group_labels_of d = take d.groups d.labels

abbrev pub groups_of : Design → List ℕ
groups_of d = take d.kept d.group

abbrev pub strata_of : Design → List ℕ
strata_of d = take d.kept d.stratum

-- at most 256 samples, and a stratum for each where strata are given
pub record Designable (lot : Lot) : Type 0 where
  pub few : length lot.labels ≤ most_samples
  pub strata_fit : lot.stratified ≡ true → length lot.strata ≡ length lot.labels

-- the design describes the lot
pub record Describes (lot : Lot) (d : Design) : Type 0 where
  pub stratified : d.stratified ≡ lot.stratified
  pub left_out : d.left_out ≡ left_out lot.labels
  pub many : d.n ≡ length lot.labels
  pub kept_many : d.kept ≡ kept_count lot.labels
  pub groups_many : d.groups ≡ group_count lot.labels
  pub strata_many : d.strata ≡ strata_count lot
  pub informing : d.informing ≡ informative_count lot
  pub kept_are : kept_of d ≡ kept lot.labels
  pub names_are : group_labels_of d ≡ group_labels lot.labels
  pub groups_are : groups_of d ≡ groups lot.labels
  pub strata_are : strata_of d ≡ strata lot

-- a design to work on: 1 to m groups of at most 256 kept samples
pub record Sound (d : Design) : Type 0 where
  pub few : d.kept ≤ most_samples
  pub some : 1 ≤ d.groups
  pub enough : d.groups ≤ d.kept
  pub groups : Below d.groups (groups_of d)
  pub strata : d.strata ≤ most_samples
  pub informing : d.informing ≤ most_samples
