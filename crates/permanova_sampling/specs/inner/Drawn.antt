-- The hits of shuffles from the terms, weights and z of a design, for both statistics together. Definitions only.
use Rattle.std.specs.Prelude.{ℕ, Bool, List, Float}
use Rattle.lists.specs.Ranges.{range}
use Rattle.lists.specs.Filters.{count_if}
use Rattle.permanova_location.specs.Location.{within, pseudo_f}
use Rattle.permanova_dispersion.specs.Anova.{anova_f}
use Rattle.permanova_p_values.specs.declared.Statistic.{Statistic}
use Rattle.permanova_p_values.specs.Hits.{shuffle_hit}
use Rattle.lot.specs.declared.Shape.{Shape}
use Rattle.lot_design.specs.declared.Design.{Design}
use Rattle.lot_design.specs.inner.Designs.{groups_of, strata_of}
use Rattle.permanova_p_values.specs.declared.Both.{Both}
use Rattle.permanova_sampling.specs.declared.hits.Draws.{Draws}
use Rattle.shuffle.specs.Shuffled.{parts, shuffled}

-- whether labels are a hit of the observed location, over terms t, weights w and their total
unfoldable pub location_hit : List Float → List Float → Shape → Statistic → Float → List ℕ → Bool
location_hit t w sizes observed total lab = shuffle_hit observed (pseudo_f total (within t w lab sizes.kept sizes.groups) sizes.kept sizes.groups)

-- whether they are one of the observed dispersion, over the observed z
unfoldable pub dispersion_hit : List Float → Shape → Statistic → List ℕ → Bool
dispersion_hit z sizes observed lab = shuffle_hit observed (anova_f z lab sizes.kept sizes.groups)

-- how many of the first n labels are hits of each
unfoldable pub hits_among : List Float → List Float → List Float → Shape → Both Statistic → Float → (ℕ → List ℕ) → ℕ → Both ℕ
hits_among t w z sizes seen total lab n =
    record {
      location = count_if (λ i. location_hit t w sizes seen.location total (lab i)) (range 0 n);
      dispersion = count_if (λ i. dispersion_hit z sizes seen.dispersion (lab i)) (range 0 n);
    }

-- the numbers of kept samples, groups and strata of a design
abbrev pub shape_of : Design → Shape
shape_of d = record { kept = d.kept; groups = d.groups; strata = d.strata }

-- of the shuffles within the strata of a design
unfoldable pub drawn : Design → List Float → List Float → List Float → Both Statistic → Float → Draws → Both ℕ
drawn d t w z seen total draws = hits_among t w z (shape_of d) seen total (shuffled (parts (strata_of d) d.kept d.strata) (groups_of d) draws.seed) draws.many
