-- Section 6: a way's three statistics, from what is worked out once for all ways. Definitions and statements only.
-- t are the terms, p the weighted squares and w the weights of m kept samples ks; x are the coordinates of all n, in rows of `columns`, of which `lead` lead; a way
-- gives the kept samples their groups.
use Rattle.std.specs.Prelude.{◌≡◌, Bool, ◌||◌, cond, List, ℕ, ◌+◌, ◌*◌, ◌≤◌, ltb, length, Float, Option, Some, None}
use Rattle.limits.specs.Limits.{most_columns, most_samples}
use Rattle.lists.specs.Filters.{any}
use Rattle.lists.specs.inner.Numbers.{Below}
use Rattle.outcome.specs.Outcome.{Outcome, answered, refused}
use Rattle.lot_design.specs.inner.Groups.{placed}
use Rattle.permanova_location.specs.Location.{within, pseudo_f}
use Rattle.permanova_dispersion.specs.Dispersion.{z_of}
use Rattle.permanova_dispersion.specs.Anova.{anova_f}
use Rattle.permanova_p_values.specs.declared.Statistic.{Statistic}
use Rattle.permanova_p_values.specs.Hits.{statistic}
use Rattle.dapc_scatter.specs.Means.{grouped}
use Rattle.dapc_scatter.specs.inner.Means.{Numbered}
use Rattle.dapc_discriminant.specs.Dapc.{Scores, columns_used, axes_of, discriminate}
use Rattle.dapc.specs.DapcLines.{bad_coordinate}
use Rattle.exhaustive_hits.specs.declared.Seen.{Seen}
use Rattle.exhaustive_walk.specs.declared.way_statistics.Frame.{Frame}
use Rattle.exhaustive_hits.specs.Assignments.{columns_of}

-- ---- the frame

-- whatever the way, `dapc` refuses these coordinates: by 3, or by 9
unfoldable pub barred_by : List Float → ℕ → Bool
barred_by x lead = any bad_coordinate x || ltb lead 2

-- of m kept samples of n, in g groups, on coordinates x of `pcoa`
abbrev pub frame_of : ℕ → ℕ → ℕ → List Float → Float → Frame
frame_of n m g x total =
    let columns = columns_of n in
    let lead = columns_used columns m g in
    record { n = n; groups = g; columns = columns; lead = lead; barred = barred_by x lead; total = total }

-- ---- the statistics

unfoldable pub location_by : Frame → ℕ → List Float → List Float → List ℕ → Statistic
location_by f m t w way = statistic (pseudo_f f.total (within t w way m f.groups) m f.groups)

unfoldable pub dispersion_by : Frame → ℕ → List Float → List Float → List Float → List ℕ → Statistic
dispersion_by f m t p w way = statistic (anova_f (z_of p t w way m) way m f.groups)

-- the right count of the scores
unfoldable pub found : Outcome Scores → Option ℕ
found (answered s) = Some s.right
found (refused r) = None

unfoldable pub assignment_by : Frame → List Float → List ℕ → List ℕ → Option ℕ
assignment_by f x ks way = cond f.barred None (found (discriminate f.n f.columns f.lead x (placed f.n ks way) f.groups))

-- all three
unfoldable pub statistics_by : Frame → ℕ → List Float → List Float → List Float → List Float → List ℕ → List ℕ → Seen
statistics_by f m t p w x ks way =
    record { location = location_by f m t w way; dispersion = dispersion_by f m t p w way; assignment = assignment_by f x ks way }

-- ---- what is lent

-- a frame of m kept samples, within the limits
pub record Framed (f : Frame) (m : ℕ) : Type 0 where
  pub two : 2 ≤ f.groups
  pub most : f.groups ≤ 128
  pub enough : f.groups ≤ m
  pub kept : m ≤ most_samples
  pub few : f.n ≤ most_samples
  pub leads : f.lead ≤ f.columns
  pub narrow : f.columns ≤ most_columns

-- what location and dispersion are worked out from
pub record Weighed (m : ℕ) (t p w : List Float) : Type 0 where
  pub pair_terms : length t ≡ m * m
  pub weighted_squares : length p ≡ m * m
  pub weights : length w ≡ m

-- what an assignment is worked out from
pub record Placing (f : Frame) (m : ℕ) (x : List Float) (ks : List ℕ) : Type 0 where
  pub framed : Framed f m
  pub coordinates : length x ≡ f.n * f.columns
  pub samples : length ks ≡ m
  pub places : Below f.n ks

-- room for its scores
abbrev pub HasRoom : Frame → ℕ → Type 0
HasRoom f scores = axes_of f.groups f.lead + f.n * axes_of f.groups f.lead ≤ scores

-- both: all that is worked out once
pub record Prepared (f : Frame) (m : ℕ) (t p w x : List Float) (ks : List ℕ) : Type 0 where
  pub weighed : Weighed m t p w
  pub placing : Placing f m x ks

-- a way of m kept samples of n, in g groups, that can be judged
pub record Judged (n m g : ℕ) (ks way : List ℕ) : Type 0 where
  pub all : length way ≡ m
  pub below : Below g way
  pub numbered : Numbered g (placed n ks way)
  pub grouped : m ≡ length (grouped (placed n ks way))
