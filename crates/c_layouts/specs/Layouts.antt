-- The parts of each operation's answer, in the order in which they are laid out. Definitions only.
use Rattle.std.specs.Prelude.{ℕ, cond, List, [], ◌∷◌, Option}
use Rattle.permanova_p_values.specs.PValues.{given, p_of}
use Rattle.permanova_sampling.specs.declared.TestResult.{TestResult}
use Rattle.permanova_p_values.specs.Hits.{state_of, value_of}
use Rattle.exhaustive_hits.specs.WayHits.{is_given, right_of}
use Rattle.exhaustive_hits.specs.declared.judgement.Judgement.{Judgement}
use Rattle.dapc_discriminant.specs.declared.Separation.{Separation}
use Rattle.c_layouts.specs.declared.layouts.Row.{Row}
use Rattle.c_layouts.specs.Coded.{Arrays, arrays}

abbrev pub row_arrays : {v n : ℕ} → Row v n → Arrays
row_arrays r = arrays r.values r.numbers

-- ---- `test`

-- values: F, r2, p, dispersion F, its p, informative fraction;
-- numbers: kept samples, groups, whether there is a p of location, and of dispersion, warnings
unfoldable pub test_row : TestResult → Row 6 5
test_row t =
    record {
      values = t.f ∷ t.summary.r2 ∷ p_of t.p ∷ t.disp_f ∷ p_of t.disp_p ∷ t.summary.informative_fraction ∷ [];
      numbers = t.summary.n ∷ t.summary.n_groups ∷ given t.p ∷ given t.disp_p ∷ t.summary.warnings ∷ [];
    }

abbrev pub test_arrays : TestResult → Arrays
test_arrays t = row_arrays (test_row t)

-- ---- `exhaustive`

-- 1 where there is an assignment
abbrev pub is_assigned : Option ℕ → ℕ
is_assigned a = cond (is_given a) 1 0

-- values: location F, r2, dispersion F, informative fraction;
-- numbers: kept samples, groups, M; whether the location F is finite, and its hits; the same of dispersion; whether there is an assignment, its right count
-- and its hits; warnings
unfoldable pub way_row : Judgement → Row 4 11
way_row j =
    record {
      values = value_of j.location.statistic ∷ j.summary.r2 ∷ value_of j.dispersion.statistic ∷ j.summary.informative_fraction ∷ [];
      numbers =
          j.summary.n
          ∷ j.summary.n_groups
          ∷ j.ways
          ∷ state_of j.location.statistic
          ∷ j.location.hits
          ∷ state_of j.dispersion.statistic
          ∷ j.dispersion.hits
          ∷ is_assigned j.assigned.statistic
          ∷ right_of j.assigned.statistic
          ∷ j.assigned.hits
          ∷ j.summary.warnings
          ∷ [];
    }

abbrev pub way_arrays : Judgement → Arrays
way_arrays j = row_arrays (way_row j)

-- ---- one number: the selected hashes of `hash_pca` and `gram_matrix`, the sweeps of `jacobi_eigen`

abbrev pub count_of : ℕ → ℕ
count_of k = k

-- ---- `dapc`

-- columns used, axes, right count
unfoldable pub dapc_numbers : Separation → List ℕ
dapc_numbers s = s.columns ∷ s.axes ∷ s.right ∷ []
