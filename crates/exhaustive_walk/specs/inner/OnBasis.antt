-- Section 6: a way's three statistics on what every way is judged on. Definitions and statements only.
use Rattle.std.specs.Prelude.{ℕ, List, length, Option}
use Rattle.permanova_p_values.specs.declared.Statistic.{Statistic}
use Rattle.exhaustive_hits.specs.declared.Seen.{Seen}
use Rattle.exhaustive_walk.specs.declared.basis.Basis.{Basis}
use Rattle.exhaustive_walk.specs.inner.WayStatistics.{location_by, dispersion_by, assignment_by, statistics_by, Judged}

-- how many samples are kept
abbrev pub kept_on : Basis → ℕ
kept_on b = length b.samples.now

abbrev pub location_on : Basis → List ℕ → Statistic
location_on b way = location_by b.frame (kept_on b) b.pair_terms.now b.weights.now way

abbrev pub dispersion_on : Basis → List ℕ → Statistic
dispersion_on b way = dispersion_by b.frame (kept_on b) b.pair_terms.now b.weighted_squares.now b.weights.now way

abbrev pub assignment_on : Basis → List ℕ → Option ℕ
assignment_on b way = assignment_by b.frame b.coords.now b.samples.now way

-- all three
abbrev pub statistics_on : Basis → List ℕ → Seen
statistics_on b way = statistics_by b.frame (kept_on b) b.pair_terms.now b.weighted_squares.now b.weights.now b.coords.now b.samples.now way

-- a way that can be judged
abbrev pub JudgedOn : Basis → List ℕ → Type 0
JudgedOn b way = Judged b.frame.n (kept_on b) b.frame.groups b.samples.now way
