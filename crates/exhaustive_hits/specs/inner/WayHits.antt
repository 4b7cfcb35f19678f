-- The three hits of a way together, and their counts over ways. Definitions only.
use Rattle.std.specs.Prelude.{Bool, cond, List, ℕ}
use Rattle.lists.specs.Filters.{count_if}
use Rattle.permanova_p_values.specs.Hits.{hit}
use Rattle.exhaustive_hits.specs.declared.Seen.{Seen}
use Rattle.exhaustive_hits.specs.declared.Hits.{Hits}
use Rattle.exhaustive_hits.specs.WayHits.{as_right}

-- whether statistics that are found are hits of those observed
abbrev pub location_hit : Seen → Seen → Bool
location_hit observed found = hit observed.location found.location

abbrev pub dispersion_hit : Seen → Seen → Bool
dispersion_hit observed found = hit observed.dispersion found.dispersion

abbrev pub assignment_hit : Seen → Seen → Bool
assignment_hit observed found = as_right observed.assignment found.assignment

-- 1 for each that is a hit
unfoldable pub hits_of : Seen → Seen → Hits
hits_of observed found = record {
  location = cond (location_hit observed found) 1 0;
  dispersion = cond (dispersion_hit observed found) 1 0;
  assignment = cond (assignment_hit observed found) 1 0;
}

-- how many ways are hits of each, by the statistics that are found for a way
unfoldable pub hits_among : Seen → (List ℕ → Seen) → List (List ℕ) → Hits
hits_among observed found ways = record {
  location = count_if (λ way. location_hit observed (found way)) ways;
  dispersion = count_if (λ way. dispersion_hit observed (found way)) ways;
  assignment = count_if (λ way. assignment_hit observed (found way)) ways;
}
