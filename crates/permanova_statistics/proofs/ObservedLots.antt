-- Weights, terms and weighted squares of a design's samples are those of the lot that it describes, and so is what is observed over them.
use Rattle.lists.proofs.Base.{◌≡◌, sym, ap, ◌∙◌, Bool, List, map, ℕ, take, Float}
use Rattle.lists.specs.Writes.{over}
use Rattle.lists.proofs.{Ranges.length-table, Writes.take-over}
use Rattle.lot.specs.{Lot.Lot, Lot.lot_of, Kept.groups, Kept.sizes}
use Rattle.permanova_sums.specs.Squares.{weight_at, pair_terms, weighted_squares, weights_of, pair_terms_of, weighted_squares_of}
use Rattle.permanova_dispersion.specs.Dispersion as dispersion
use Rattle.permanova_dispersion.specs.Anova.{anova_f, mean_z}
use Rattle.permanova_statistics.specs.Statistics.{total_of, within_of, location_f, r_squared_of, z_of, some_negative, dispersion_of, dispersion_f}
use Rattle.permanova_statistics.specs.Warnings.{sizes_of}
use Rattle.lot_design.specs.declared.Design.{Design}
use Rattle.lot_design.specs.inner.Designs.{kept_of, groups_of, Describes}
use Rattle.permanova_statistics.specs.declared.observation.Observed.{Observed}
use Rattle.permanova_statistics.specs.inner.Observed.{observed_of, located, spread, observed}
use Rattle.permanova_statistics.specs.inner.Observation.{Weighs, Observes}

pub spread-is : (p t w : List Float) (lab : List ℕ) (m g : ℕ) {f : Float} {z : List Float} {negative : Bool}
    → f ≡ anova_f z lab m g → z ≡ dispersion.z_of p t w lab m → negative ≡ dispersion.some_negative p t w lab m
    → record { f = f; negative = negative } ≡ spread p t w lab m g
unfolding spread
spread-is p t w lab m g ef ez en = rw (ef, ez, en)

module _ (d : Design) (distances : List Float) (labels : List ℕ) (stratified : Bool) (strata : List ℕ) (weighted : Bool) (weights : List Float) where
  abbrev lot : Lot
  lot = lot_of d.n distances labels stratified strata weighted weights

  abbrev w₀ : List Float
  w₀ = map (weight_at weighted weights) (kept_of d)

  pub weighs : Describes lot d → {w t p : List Float} → w ≡ w₀ → t ≡ pair_terms distances d.n (kept_of d) w₀ d.kept →
      p ≡ weighted_squares distances d.n (kept_of d) w₀ d.kept → Weighs lot d p t w
  unfolding weights_of pair_terms_of weighted_squares_of
  weighs e ew et ep = record {
    described = e;
    weighted_squares = ep ∙ rw (e.kept_are, e.kept_many);
    pair_terms = et ∙ rw (e.kept_are, e.kept_many);
    weights = ew ∙ rw e.kept_are;
  }

module _ (lot : Lot) {d : Design} {p t w : List Float} (e : Weighs lot d p t w) where
  observed-lot : observed p t w (groups_of d) d.kept d.groups ≡ observed_of lot
  unfolding observed located spread observed_of total_of within_of location_f r_squared_of z_of some_negative dispersion_of dispersion_f
  observed-lot = rw (e.weighted_squares, e.pair_terms, e.weights, e.described.groups_are, e.described.kept_many, e.described.groups_many)

  z-lot : dispersion.z_of p t w (groups_of d) d.kept ≡ z_of lot (groups lot.labels)
  unfolding z_of
  z-lot = rw (e.weighted_squares, e.pair_terms, e.weights, e.described.groups_are, e.described.kept_many)

  pub observes : (counts : List ℕ) (means : List Float) {counts' : List ℕ} {means' z : List Float} {r : Observed}
      → (r ≡ observed p t w (groups_of d) d.kept d.groups) × (z ≡ dispersion.z_of p t w (groups_of d) d.kept)
      × (counts' ≡ over (sizes (groups_of d) d.kept d.groups) counts)
      × (means' ≡ over (mean_z (dispersion.z_of p t w (groups_of d) d.kept) (groups_of d) d.kept d.groups) means)
      → Observes lot counts means counts' means' z r
  unfolding sizes_of
  observes counts means told = record {
    result = told.0 ∙ observed-lot;
    listed = record {
      sizes = told.2 ∙ rw (e.described.groups_are, e.described.kept_many, e.described.groups_many);
      mean_z = told.3 ∙ rw (z-lot, e.described.groups_are, e.described.kept_many, e.described.groups_many);
    };
    distances = told.1 ∙ z-lot;
  }

-- ---- the groups' sizes stand at the front of their output

pub sizes-front : (lot : Lot) {d : Design} (old : List ℕ) {counts : List ℕ} → Describes lot d → counts ≡ over (sizes_of lot) old → take d.groups counts ≡ sizes_of lot
unfolding sizes_of sizes
sizes-front lot {d} old e h = ap (take d.groups) h ∙ take-over (sizes_of lot) old d.groups (length-table _ _ ∙ sym e.groups_many)
