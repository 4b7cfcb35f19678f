-- What is known of a call that the lines let pass.
use Rattle.lists.proofs.Base.{◌≡◌, sym, ap, subst, ◌∙◌, Bool, false, List, ℕ, ◌+◌, ◌*◌, ◌≤◌, mul-le-mul, arith, length, Float}
use Rattle.outcome.specs.Outcome as outcome
use Rattle.outcome.proofs.Lengths.{long-at}
use Rattle.lot.specs.Lot.{Lot, lot_of}
use Rattle.lot.specs.Lines.{test_lines}
use Rattle.outcome.specs.Refusals.{first}
use Rattle.exhaustive_hits.specs.Assignments.{columns_of}
use Rattle.lot.proofs.AcceptedLots.{Passes, passes}
use Rattle.lot_design.specs.declared.Design.{Design}
use Rattle.lot_design.specs.inner.Designs.{groups_of, strata_of, Describes, Sound}
use Rattle.lot_design.proofs.{Accepted.design-sound, Accepted.kept-all, Accepted.groups-all, Accepted.same-n, Accepted.samples-below}
use Rattle.permanova_statistics.specs.inner.Observation.{Weighing, Weighs}
use Rattle.limits.specs.Limits.{most_ways}
use Rattle.exhaustive_ways.specs.Ways.{way_count_of, way_count}
use Rattle.exhaustive_ways.specs.inner.Ways.{capped}
use Rattle.exhaustive_answer.specs.inner.{Answering.Answering, Ordination.coords_in, Ordination.Ordinating}
use Rattle.exhaustive_hits.specs.Call.{Slices, exhaustive_asks, lengths_of, too_short}
use Rattle.exhaustive_hits.specs.inner.Call.{Long, early}
use Rattle.exhaustive_answer.proofs.LentCoordinates.{length-coords}
use Rattle.exhaustive.specs.inner.Passing.{Admits, Running}

-- ---- line 1

long-enough : (n : ℕ) (s : Slices) → too_short n s ≡ false → Long n s
unfolding too_short
long-enough n s e =
    let at = long-at (lengths_of s) (exhaustive_asks n) e in
    record {
      labels = at 0 (omega arith) (omega arith);
      counts = at 1 (omega arith) (omega arith);
      means = at 2 (omega arith) (omega arith);
      pair_terms = at 3 (omega arith) (omega arith);
      weighted_squares = at 4 (omega arith) (omega arith);
      coords = at 5 (omega arith) (omega arith);
      eigenpairs = at 6 (omega arith) (omega arith);
      vectors = at 7 (omega arith) (omega arith);
      label_counts = at 8 (omega arith) (omega arith);
    }

-- ---- a lot that lines 1 to 5 let pass

module _ (lot : Lot) (s : Slices) (passed : early lot s ≡ outcome.passed) where
  pub accepted : Passes lot (too_short lot.n s) false
  unfolding early
  accepted = passes lot (too_short lot.n s) false passed

  pub long : Long lot.n s
  long = long-enough lot.n s accepted.long

  -- whatever is lent
  passed-lot : first (test_lines lot false false) ≡ outcome.passed
  unfolding early
  passed-lot = ap (λ (b : Bool). first (test_lines lot b false)) (sym accepted.long) ∙ passed

  pub admitted : {d : Design} {ways : ℕ} → Describes lot d → ways ≡ way_count lot → ways ≤ most_ways → Admits lot d ways
  admitted e many few = record { described = e; passed = passed-lot; many = many; few = few }

-- M by a design, for any lot that it describes
pub ways-by : (lot : Lot) {d : Design} → Describes lot d → {r : ℕ} → r ≡ capped (way_count_of (strata_of d) (groups_of d)) → r ≡ capped (way_count lot)
unfolding way_count
ways-by lot e h = h ∙ (λ i. capped (way_count_of (e.strata_are i) (e.groups_are i)))

-- ---- what inner functions are asked

module _ {lot : Lot} {d : Design} {ways : ℕ} (a : Admits lot d ways) where
  known : Passes lot false false
  known = passes lot false false a.passed

  n-is : d.n ≡ lot.n
  n-is = same-n lot a.described known

  pub admits-sound : Sound d
  admits-sound = design-sound lot a.described known

  pub admits-labelled : length lot.labels ≡ lot.n
  admits-labelled = known.fits.labels_fit

  groups-few : d.groups ≤ d.n
  groups-few = groups-all lot a.described known

  all-kept : d.kept ≤ d.n
  all-kept = kept-all lot a.described

  module _ {s : Slices} (room : Long lot.n s) where
    pub settled-ordinates : Ordinating lot.n lot.distances (length s.coords) (length s.pair_terms) (length s.weighted_squares) (length s.eigenpairs) (length s.vectors)
    settled-ordinates = record {
      fits = known.fits.distances_fit;
      few = known.few;
      coords_room = room.coords;
      pair_terms_room = room.pair_terms;
      weighted_squares_room = room.weighted_squares;
      eigenpairs_room = room.eigenpairs;
      vectors_room = room.vectors;
    }

    pub settled-outputs : (d.groups ≤ length s.labels) × (d.groups ≤ length s.counts) × (d.groups ≤ length s.means)
    settled-outputs = let all = groups-few in (omega (arith, n-is, room.labels), omega (arith, n-is, room.counts), omega (arith, n-is, room.means))

    pub settled-names : (d.groups ≤ 256) × (d.groups ≤ length s.labels)
    settled-names = let all = groups-few in (omega (arith, n-is, known.few), omega (arith, n-is, room.labels))

    pub settled-runs : {coords pair_terms weighted_squares scores : ℕ} → coords ≡ length s.coords → pair_terms ≡ length s.pair_terms → weighted_squares ≡ length s.weighted_squares
        → scores ≡ length s.eigenpairs → Running lot.n coords (length s.counts) (length s.means) pair_terms weighted_squares (length s.label_counts) scores
    settled-runs ec et ep es = record {
      coords_room = omega (arith, room.coords);
      counts_room = room.counts;
      means_room = room.means;
      pair_terms_room = omega (arith, room.pair_terms);
      weighted_squares_room = omega (arith, room.weighted_squares);
      label_counts_room = room.label_counts;
      scores_room = omega (arith, room.eigenpairs);
    }

  module _ {coords counts means pair_terms weighted_squares label_counts scores : ℕ} (r : Running lot.n coords counts means pair_terms weighted_squares label_counts scores) where
    pub square-fits : (d.kept * d.kept ≤ pair_terms) × (d.kept * d.kept ≤ weighted_squares)
    square-fits =
        let kept : d.kept ≤ lot.n = omega (arith, n-is, all-kept) in
        let square = mul-le-mul kept kept in (omega (arith, square, r.pair_terms_room), omega (arith, square, r.weighted_squares_room))

    pub runs-weighs : Weighing d lot.distances lot.weighted lot.weights 256 pair_terms weighted_squares
    runs-weighs = record {
      sound = admits-sound;
      samples = samples-below lot a.described;
      distances_fit = known.fits.distances_fit ∙ ap (λ (n : ℕ). n * n) (sym n-is);
      weights_fit = λ g. known.fits.weights_fit g ∙ sym n-is;
      weights_room = admits-sound.few;
      pair_terms_room = square-fits.0;
      weighted_squares_room = square-fits.1;
    }

    -- the lot by its design's number of samples
    pub lot-weighs : {p t w : List Float} → ((labels : List ℕ) (stratified : Bool) (strata : List ℕ) → Describes (lot_of d.n lot.distances labels stratified strata lot.weighted lot.weights) d
        → Weighs (lot_of d.n lot.distances labels stratified strata lot.weighted lot.weights) d p t w) → Weighs lot d p t w
    lot-weighs {p} {t} {w} h = subst (λ (n : ℕ). Weighs (of n) d p t w) n-is
        (h lot.labels lot.stratified lot.strata (subst (λ (n : ℕ). Describes (of n) d) (sym n-is) a.described))
      where
        of : ℕ → Lot
        of n = lot_of n lot.distances lot.labels lot.stratified lot.strata lot.weighted lot.weights

    pub runs-judges : (coords' : List Float) → length coords' ≡ coords → {p t w x : List Float} → Weighs lot d p t w → x ≡ coords_in lot.n coords' → Answering d ways p t w x label_counts scores counts means
    runs-judges coords' ec {x = x} weighs ex =
        let groups : d.groups ≤ lot.n = omega (arith, groups-few, n-is) in
        let kept : d.kept ≤ lot.n = omega (arith, n-is, all-kept) in
        let cells = mul-le-mul {n₁ = d.kept} {m₁ = d.groups} {n₂ = lot.n} {m₂ = lot.n} kept groups in
        let same : d.n + d.n * d.n ≡ lot.n + lot.n * lot.n = ap (λ (n : ℕ). n + n * n) n-is in
        record {
          judgeable = record {
            lot = lot;
            owns = record { weighs = weighs; labelled = admits-labelled };
            few = known.few;
            two = known.groups;
            few_ways = omega (arith, a.many, a.few);
            coordinates = ap length ex ∙ length-coords lot.n coords' (omega (arith, ec, r.coords_room)) ∙ ap (λ (n : ℕ). n * columns_of n) (sym n-is);
            label_counts_room = omega (arith, cells, r.label_counts_room);
            scores_room = omega (arith, same, r.scores_room);
          };
          many = a.many;
          counts_room = omega (arith, groups, r.counts_room);
          means_room = omega (arith, groups, r.means_room);
        }
