-- What is asked of the slices of a lot that is observed, and what they hold afterwards. Statements only.
use Rattle.std.specs.Prelude.{◌≡◌, Bool, true, List, ℕ, ◌*◌, ◌≤◌, length, Float}
use Rattle.limits.specs.Limits.{most_samples}
use Rattle.lists.specs.inner.Numbers.{Below}
use Rattle.lists.specs.Writes.{over}
use Rattle.grouping.specs.inner.Parts.{Parts, Grouped}
use Rattle.lot.specs.Lot.{Lot}
use Rattle.lot.specs.Kept.{groups, kept_count, group_count}
use Rattle.permanova_sums.specs.Squares.{weights_of, pair_terms_of, weighted_squares_of}
use Rattle.permanova_dispersion.specs.Anova.{mean_z}
use Rattle.permanova_statistics.specs.Statistics.{z_of}
use Rattle.permanova_statistics.specs.Warnings.{sizes_of}
use Rattle.lot_design.specs.declared.Design.{Design}
use Rattle.lot_design.specs.inner.Designs.{kept_of, Describes, Sound}
use Rattle.permanova_statistics.specs.declared.observation.Observed.{Observed}
use Rattle.permanova_statistics.specs.inner.Observed.{observed_of}

-- ---- weights and terms

-- distances and weights of n samples, m of them kept, and slices of these lengths for weights, terms and weighted squares
pub record WeighingKept (n m : ℕ) (distances : List Float) (ks : List ℕ) (weighted : Bool) (weights : List Float) (w t p : ℕ) : Type 0 where
  pub distances_fit : length distances ≡ n * n
  pub samples : length ks ≡ m
  pub places : Below n ks
  pub weights_fit : weighted ≡ true → length weights ≡ n
  pub weights_long : w ≡ m
  pub pair_terms_long : t ≡ m * m
  pub weighted_squares_long : p ≡ m * m

-- a sound design of n samples, their distances and weights, and slices of these lengths for weights, terms and weighted squares
pub record Weighing (d : Design) (distances : List Float) (weighted : Bool) (weights : List Float) (w t p : ℕ) : Type 0 where
  pub sound : Sound d
  pub samples : Below d.n (kept_of d)
  pub distances_fit : length distances ≡ d.n * d.n
  pub weights_fit : weighted ≡ true → length weights ≡ d.n
  pub weights_room : d.kept ≤ w
  pub pair_terms_room : d.kept * d.kept ≤ t
  pub weighted_squares_room : d.kept * d.kept ≤ p

-- p, t and w are the weighted squares, terms and weights of the lot that d describes
pub record Weighs (lot : Lot) (d : Design) (p t w : List Float) : Type 0 where
  pub described : Describes lot d
  pub weighted_squares : p ≡ weighted_squares_of lot
  pub pair_terms : t ≡ pair_terms_of lot
  pub weights : w ≡ weights_of lot

-- weighted squares, terms and weights for the samples of a sound design
pub record Weighed (d : Design) (p t w : List Float) : Type 0 where
  pub sound : Sound d
  pub weighted_squares : length p ≡ d.kept * d.kept
  pub pair_terms : length t ≡ d.kept * d.kept
  pub weights : length w ≡ d.kept

-- and slices of these lengths for z and the outputs
pub record Observing (d : Design) (p t w : List Float) (z counts means : ℕ) : Type 0 where
  pub weighed : Weighed d p t w
  pub z_room : d.kept ≤ z
  pub counts_room : d.groups ≤ counts
  pub means_room : d.groups ≤ means

-- weighted squares, terms, weights and labels of m samples in g groups
pub record Labelled (m g : ℕ) (p t w : List Float) (gs : List ℕ) : Type 0 where
  pub weighted_squares : length p ≡ m * m
  pub pair_terms : length t ≡ m * m
  pub weights : length w ≡ m
  pub labels : length gs ≡ m
  pub groups : Below g gs
  pub some : 1 ≤ g
  pub enough : g ≤ m
  pub few : m ≤ most_samples

-- and a slice of this length for z, with room for the outputs
pub record ObservingKept (m g : ℕ) (p t w : List Float) (gs : List ℕ) (z counts means : ℕ) : Type 0 where
  pub labelled : Labelled m g p t w gs
  pub z_long : z ≡ m
  pub counts_room : g ≤ counts
  pub means_room : g ≤ means

-- what location, dispersion and the listing ask once the groups' members are the parts of mem
pub record Locating (m g : ℕ) (t w : List Float) (next mem : List ℕ) : Type 0 where
  pub pair_terms : length t ≡ m * m
  pub weights : length w ≡ m
  pub parts : Parts m g next mem
  pub some : 1 ≤ g
  pub enough : g ≤ m
  pub few : m ≤ most_samples

pub record Dispersing (m g : ℕ) (p t w : List Float) (gs next mem : List ℕ) (z : ℕ) : Type 0 where
  pub labelled : Labelled m g p t w gs
  pub grouped : Grouped gs m g next mem
  pub z_long : z ≡ m

pub record Listing (m g : ℕ) (next mem : List ℕ) (z counts means : ℕ) : Type 0 where
  pub z_long : z ≡ m
  pub parts : Parts m g next mem
  pub counts_room : g ≤ counts
  pub means_room : g ≤ means

-- ---- what is observed

-- two outputs held counts and means and hold counts' and means': each group's size and mean z
pub record Listed (lot : Lot) (counts : List ℕ) (means : List Float) (counts' : List ℕ) (means' : List Float) : Type 0 where
  pub sizes : counts' ≡ over (sizes_of lot) counts
  pub mean_z : means' ≡ over (mean_z (z_of lot (groups lot.labels)) (groups lot.labels) (kept_count lot.labels) (group_count lot.labels)) means

-- what is returned, what the outputs hold, and z
pub record Observes (lot : Lot) (counts : List ℕ) (means : List Float) (counts' : List ℕ) (means' z : List Float) (r : Observed) : Type 0 where
  pub result : r ≡ observed_of lot
  pub listed : Listed lot counts means counts' means'
  pub distances : z ≡ z_of lot (groups lot.labels)
