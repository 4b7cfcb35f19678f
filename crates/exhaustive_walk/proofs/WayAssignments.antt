-- What `dapc` answers for labels whose lengths fit: it refuses the coordinates whatever the way, or goes by the scores of the groups. A way of a lot can be
-- judged, and its statistics are those of the lot with the way's labels.
use Rattle.lists.proofs.Base.{◌≡◌, refl, sym, ap, ap₂, subst, ◌∙◌, Bool, true, false, cond, ◌||◌, List, ℕ, ◌+◌, ◌*◌, ◌≤◌}
use Rattle.lists.proofs.Base.{min-le_left, arith, eq-eqb, le-ltb, ltb, length, replicate, length-replicate, Float}
use Rattle.float.specs.Floats.{zero⁺}
use Rattle.lists.specs.Filters.{any}
use Rattle.outcome.specs.{Refusals.first, Refusals.short, Outcome.Outcome, Outcome.Told, Outcome.passed, Outcome.refused, Outcome.judged}
use Rattle.lot.specs.{Lot.Lot, Kept.kept, Kept.group_each, Kept.kept_count, Kept.group_count, Way.IsWay, Way.relabelled}
use Rattle.lot.proofs.Relabelled.{same-lot, way-below}
use Rattle.lot_design.specs.inner.Groups.{placed}
use Rattle.lot_design.proofs.PlacedGroups.{each_placed}
use Rattle.permanova_sums.specs.Squares.{weights_of, pair_terms_of, weighted_squares_of}
use Rattle.permanova_p_values.specs.Hits.{statistic}
use Rattle.permanova_statistics.specs.Statistics.{total_of, within_of, location_f, z_of, dispersion_of, dispersion_f}
use Rattle.dapc_scatter.specs.Means.{grouped}
use Rattle.dapc_scatter.specs.inner.Means.{Numbered}
use Rattle.dapc_discriminant.specs.Dapc.{Scores, columns_used, axes_of, discriminate, dapc}
use Rattle.dapc.specs.DapcLines.{misfits, bad_coordinate, shape_lines, group_lines, dapc_lines}
use Rattle.dapc.specs.Call.{call_by, dapc_call}
use Rattle.dapc.proofs.LabelGroups.{grouped-kept, numbered-each}
use Rattle.std.specs.Prelude.{Option, None}
use Rattle.exhaustive_hits.specs.Assignments.{columns_of, assignment}
use Rattle.exhaustive_walk.specs.inner.WayStatistics.{barred_by, frame_of, location_by, dispersion_by, found, assignment_by, statistics_by, Judged}
use Rattle.exhaustive_walk.proofs.WayStatisticsCases.{answer-found}

-- by the two lines that coordinates can meet
by_lines : (b c : Bool) (o : Outcome Scores) → found (judged (cond b (refused 3) (cond c (refused 9) passed)) o) ≡ cond (b || c) None (found o)
unfolding found
by_lines true c o = refl
by_lines false true o = refl
by_lines false false o = refl

module _ (n columns : ℕ) (x : List Float) (labels : List ℕ) (coordinates : length x ≡ n * columns) (labelled : length labels ≡ n) (few : n ≤ 256) (narrow : columns ≤ 16)
    (two : 2 ≤ group_count labels) where
  abbrev m : ℕ
  m = kept_count labels

  abbrev g : ℕ
  g = group_count labels

  abbrev out : List Float
  out = replicate (columns + n * columns) zero⁺

  abbrev assigned : List ℕ
  assigned = replicate n 0

  fits : misfits n columns (length x) (length labels) (length out) (length assigned) ≡ false
  unfolding misfits short
  fits =
      let wide = le-ltb (length out) (columns + n * columns) (omega (arith, length-replicate (columns + n * columns) zero⁺)) in
      rw (eq-eqb _ _ coordinates, eq-eqb _ _ labelled, wide, le-ltb (length assigned) n (omega (arith, length-replicate {A = ℕ} n 0)))

  lines_are : first (dapc_lines n columns x labels (length out) (length assigned))
      ≡ cond (any bad_coordinate x) (refused 3) (cond (ltb (columns_used columns m g) 2) (refused 9) passed)
  unfolding dapc_lines shape_lines group_lines first
  lines_are = rw (fits, le-ltb 256 n few, le-ltb 16 columns narrow, le-ltb g 2 two)

  -- the groups that have samples are those of m kept ones
  scored : dapc n columns x (group_each labels) g ≡ discriminate n columns (columns_used columns m g) x (group_each labels) g
  unfolding dapc kept_count
  scored = ap (λ (ks : List ℕ). discriminate n columns (columns_used columns (length ks) g) x (group_each labels) g) (grouped-kept labels (omega arith))

  assignment-is : assignment n columns x labels ≡ cond (barred_by x (columns_used columns m g)) None (found (discriminate n columns (columns_used columns m g) x (group_each labels) g))
  unfolding assignment dapc_call call_by barred_by
  assignment-is =
      let answer = judged (first (dapc_lines n columns x labels (length out) (length assigned))) (dapc n columns x (group_each labels) g) in
      answer-found n (columns_used columns m g) (axes_of g (columns_used columns m g)) answer out assigned
      ∙ ap₂ (λ (c : Told) (o : Outcome Scores). found (judged c o)) lines_are scored
      ∙ by_lines (any bad_coordinate x) (ltb (columns_used columns m g) 2) (discriminate n columns (columns_used columns m g) x (group_each labels) g)

-- ---- a way of a lot

module _ (lot : Lot) (labelled : length lot.labels ≡ lot.n) (few : lot.n ≤ 256) (way : List ℕ) (is-way : IsWay lot way) where
  abbrev m₀ : ℕ
  m₀ = kept_count lot.labels

  abbrev g₀ : ℕ
  g₀ = group_count lot.labels

  abbrev new : List ℕ
  new = (relabelled lot way).labels

  labelled-new : length new ≡ lot.n
  labelled-new = (same-lot lot way is-way).same_length ∙ labelled

  same-m : kept_count new ≡ m₀
  unfolding kept_count
  same-m = ap length (same-lot lot way is-way).same_kept

  same-g : group_count new ≡ g₀
  unfolding group_count
  same-g = ap length (same-lot lot way is-way).same_names

  each_way : group_each new ≡ placed lot.n (kept lot.labels) way
  each_way = each_placed new ∙ (λ i. placed (labelled-new i) ((same-lot lot way is-way).same_kept i) ((same-lot lot way is-way).groups_are i))

  -- it can be judged
  pub way-judged : Judged lot.n m₀ g₀ (kept lot.labels) way
  unfolding group_count kept_count
  way-judged = record {
    all = is-way.labels_all;
    below = way-below lot way is-way;
    numbered = subst (λ (l : List ℕ). Numbered g₀ l) each_way (subst (λ (k : ℕ). Numbered k (group_each new)) same-g (numbered-each new));
    grouped = sym (ap (λ (l : List ℕ). length (grouped l)) (sym each_way) ∙ ap length (grouped-kept new (omega (arith, labelled-new))) ∙ same-m);
  }

  -- on coordinates of all samples
  module _ (x : List Float) (coordinates : length x ≡ lot.n * columns_of lot.n) (two : 2 ≤ g₀) where
    by-groups : ℕ → ℕ → List ℕ → Option ℕ
    by-groups m g each = let lead = columns_used (columns_of lot.n) m g in cond (barred_by x lead) None (found (discriminate lot.n (columns_of lot.n) lead x each g))

    -- its assignment is what `dapc` answers for its labels
    pub assignment-way : (total : Float) → assignment_by (frame_of lot.n m₀ g₀ x total) x (kept lot.labels) way ≡ assignment lot.n (columns_of lot.n) x new
    unfolding assignment_by by-groups
    assignment-way total =
        let narrow : columns_of lot.n ≤ 16 = omega (arith, min-le_left 8 lot.n) in
        sym (assignment-is lot.n (columns_of lot.n) x new coordinates labelled-new few narrow (omega (arith, same-g)) ∙ (λ i. by-groups (same-m i) (same-g i) (each_way i)))

    -- and its three statistics are those of the lot with the way's labels
    pub statistics-way : statistics_by (frame_of lot.n m₀ g₀ x (total_of lot)) m₀ (pair_terms_of lot) (weighted_squares_of lot) (weights_of lot) x (kept lot.labels) way
        ≡ record { location = statistic (location_f lot way); dispersion = statistic (dispersion_f lot way); assignment = assignment lot.n (columns_of lot.n) x new }
    unfolding statistics_by location_by dispersion_by location_f within_of dispersion_f dispersion_of z_of
    statistics-way = λ i. record { location = statistic (location_f lot way); dispersion = statistic (dispersion_f lot way); assignment = assignment-way (total_of lot) i }
