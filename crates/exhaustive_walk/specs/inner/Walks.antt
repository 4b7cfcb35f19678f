-- Section 6: what the walk is asked. Statements only.
use Rattle.std.specs.Prelude.{◌≡◌, ℕ, ◌≤◌, ◌<◌, ◌^◌, length}
use mathlib.Core.List.{List, Memᴰ as Member}
use Rattle.lists.specs.inner.Numbers.{Below}
use Rattle.limits.specs.Limits.{most_ways}
use Rattle.exhaustive_ways.specs.Ways.{ways_of, way_count_of}
use Rattle.exhaustive_ways.specs.inner.Remaining.{onward}
use Rattle.exhaustive_ways.specs.inner.Order.{Node}
use Rattle.exhaustive_walk.specs.declared.way_statistics.Frame.{Frame}
use Rattle.exhaustive_walk.specs.inner.WayStatistics.{Judged}

-- no label is placed yet, the ways ahead are few, and each of them can be judged
pub record Walking (f : Frame) (ks ss counts way : List ℕ) : Type 0 where
  pub node : Node f.groups ss counts way 0
  pub few : length (onward f.groups ss counts 0) < 2 ^ 64
  pub judged : (way : List ℕ) → Member way (onward f.groups ss counts 0) → Judged f.n (length ks) f.groups ks way

-- the same of all ways of the groups gs within the strata ss
pub record Walkable (n g : ℕ) (ks ss gs : List ℕ) : Type 0 where
  pub samples : length ss ≡ length ks
  pub grouped : length gs ≡ length ss
  pub below : Below g gs
  pub few : way_count_of ss gs ≤ most_ways
  pub judged : (way : List ℕ) → Member way (ways_of g ss gs) → Judged n (length ks) g ks way
