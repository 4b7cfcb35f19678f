-- Means and scatter together, and the room that they take.
use Rattle.lists.proofs.Base.{◌≡◌, ap, ap₂, ◌∙◌, Bool, not, List, ℕ, ◌*◌, ◌≤◌, mul-le-mul, arith, length, Float}
use Rattle.lists.specs.{Ranges.range, Numbers.in_group}
use Rattle.lists.proofs.{Ranges.length-range, Filters.count_if-below, Filters.length-filter}
use Rattle.limits.specs.Limits.{none}
use Rattle.lot.specs.Kept.{sizes}
use Rattle.dapc_scatter.specs.{Means.grouped, Means.mean_of, Means.group_means, Ridge.ridged, Scatter.scatter_within, Scatter.scatter_between}
use Rattle.dapc_scatter.specs.declared.samples.Dimensions.{Dimensions}
use Rattle.dapc_scatter.specs.declared.samples.Samples.{Samples}
use Rattle.dapc_scatter.specs.inner.Moments.{Filled}

pub filled_is : (d : Dimensions) (x : List Float) (each : List ℕ) {mean mu mu' sw sb : List Float} {counts : List ℕ} → mean ≡ mean_of d.columns d.lead x each
    → mu ≡ group_means d.columns d.lead x each d.groups → mu' ≡ mu → counts ≡ sizes each (length each) d.groups
    → (sw ≡ ridged d.lead (scatter_within d.columns d.lead x each mu')) × (sb ≡ scatter_between d.lead d.groups each mu' mean)
    → Filled d x each mean counts sw sb
filled_is d x each means group-means same counted scattered = record {
  means = means;
  counted = counted;
  within = scattered.0 ∙ ap (λ (mu : List Float). ridged d.lead (scatter_within d.columns d.lead x each mu)) (same ∙ group-means);
  between = scattered.1 ∙ ap₂ (scatter_between d.lead d.groups each) (same ∙ group-means) means;
}

-- no more samples have a group than there are
grouped-few : (each : List ℕ) → length (grouped each) ≤ length each
unfolding grouped
grouped-few each =
    let p : ℕ → Bool = λ i. not (in_group each none i) in
    omega (arith, length-filter p (range 0 (length each)), count_if-below p (range 0 (length each)), length-range 0 (length each))

module _ (s : Samples) where
  pub kept-few : s.sizes.kept ≡ length (grouped s.groups.now) → s.sizes.kept ≤ 256
  kept-few members = omega (arith, s.few, grouped-few s.groups.now)

  -- the groups' means fit their room
  pub means-fit : s.sizes.groups * s.sizes.lead ≤ 2048
  means-fit = omega (arith, mul-le-mul {n₁ = s.sizes.groups} {m₁ = s.sizes.lead} {n₂ = 128} {m₂ = 16} s.most s.narrow)
