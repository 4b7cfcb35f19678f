-- What is known of a lot whose parts fit n, and of one that no line turns away.
use Rattle.lists.proofs.Base.{◌≡◌, refl, sym, ◌∙◌, Bool, true, false, not, ◌&&◌, ◌||◌, true≢false, List, ◌++◌, ℕ, ◌*◌, ◌≤◌, eqb-true, ltb-false, not-false, eqb, ltb, length, Float}
use Rattle.lists.specs.Filters.{any, all}
use Rattle.outcome.specs.{Outcome.passed, Outcome.refused, Refusals.first, Slices.untouched}
use Rattle.lot.specs.{Lot.Lot, Kept.group_count, Mirror.unmirrored}
use Rattle.lot.specs.Lines.{bad_distance, bad_weight, misfits, size_lines, matrix_lines, label_lines, test_lines}
use Rattle.lists.proofs.Truths.{or-neither}
use Rattle.outcome.proofs.Table.{first-passed, first-after, first-both, first-untouched}

-- ---- a lot whose parts fit n

-- what fits, of a part that is given
fit-given : (given : Bool) (k n : ℕ) → (given && not (eqb k n)) ≡ false → given ≡ true → k ≡ n
fit-given true k n e g = eqb-true k n (not-false _ e)
fit-given false k n e g = absurd (true≢false (sym g))

pub record Fits (lot : Lot) : Type 0 where
  pub distances_fit : length lot.distances ≡ lot.n * lot.n
  pub labels_fit : length lot.labels ≡ lot.n
  pub strata_fit : lot.stratified ≡ true → length lot.strata ≡ lot.n
  pub weights_fit : lot.weighted ≡ true → length lot.weights ≡ lot.n

pub parts-fit : (lot : Lot) → misfits lot ≡ false → Fits lot
unfolding misfits
parts-fit lot e =
    let w = or-neither _ _ e in
    let s = or-neither _ _ w.0 in
    let l = or-neither _ _ s.0 in
    record {
      distances_fit = eqb-true _ _ (not-false _ l.0);
      labels_fit = eqb-true _ _ (not-false _ l.1);
      strata_fit = λ g. fit-given lot.stratified _ _ s.1 g;
      weights_fit = λ g. fit-given lot.weighted _ _ w.1 g;
    }

-- ---- what is known where the lines of a group do not hold

-- 1 and 2
pub record Sized (misfit : Bool) (n : ℕ) (beyond : Bool) : Type 0 where
  pub fit : misfit ≡ false
  pub few : n ≤ 256
  pub within : beyond ≡ false

pub sizes-known : (misfit : Bool) (n : ℕ) (beyond : Bool) → first (size_lines misfit n beyond) ≡ passed → Sized misfit n beyond
sizes-known misfit n beyond e =
    let one = first-passed 1 _ misfit (sym e) in
    let two = or-neither (ltb 256 n) beyond (first-passed 2 _ _ one.1).0 in record { fit = one.0; few = ltb-false _ _ two.0; within = two.1 }

-- 3 and 14
pub record Mirrored (n : ℕ) (d : List Float) : Type 0 where
  pub values : any bad_distance d ≡ false
  pub mirrors : unmirrored n d ≡ false

pub matrix-known : (n : ℕ) (d : List Float) → first (matrix_lines n d) ≡ passed → Mirrored n d
matrix-known n d e = let three = first-passed 3 _ _ (sym e) in record { values = three.0; mirrors = (first-passed 14 _ _ three.1).0 }

-- 4 and 5
pub record Labelled (labels : List ℕ) (weighted : Bool) (weights : List Float) : Type 0 where
  pub weighed : (weighted && any bad_weight weights) ≡ false
  pub groups : 2 ≤ group_count labels

pub labels-known : (labels : List ℕ) (weighted : Bool) (weights : List Float) → first (label_lines labels weighted weights) ≡ passed → Labelled labels weighted weights
labels-known labels weighted weights e =
    let four = first-passed 4 _ _ (sym e) in record { weighed = four.0; groups = ltb-false _ _ (first-passed 5 _ _ four.1).0 }

-- ---- a lot that no line turns away

-- by the groups
pub record Clear (lot : Lot) (short beyond : Bool) : Type 0 where
  pub sizes : first (size_lines (misfits lot || short) lot.n beyond) ≡ passed
  pub matrix : first (matrix_lines lot.n lot.distances) ≡ passed
  pub labels : first (label_lines lot.labels lot.weighted lot.weights) ≡ passed

module _ (lot : Lot) (short beyond : Bool) where
  pub passed-clear : first (test_lines lot short beyond) ≡ passed → Clear lot short beyond
  unfolding test_lines
  passed-clear e =
      let sizes = first-both (size_lines (misfits lot || short) lot.n beyond) (matrix_lines lot.n lot.distances ++ label_lines lot.labels lot.weighted lot.weights) e in
      let rest = first-both (matrix_lines lot.n lot.distances) (label_lines lot.labels lot.weighted lot.weights) sizes.1 in
      record { sizes = sizes.0; matrix = rest.0; labels = rest.1 }

  pub clear-passed : Clear lot short beyond → first (test_lines lot short beyond) ≡ passed
  unfolding test_lines
  clear-passed c =
      first-after (size_lines (misfits lot || short) lot.n beyond) (matrix_lines lot.n lot.distances ++ label_lines lot.labels lot.weighted lot.weights) c.sizes
      ∙ first-after (matrix_lines lot.n lot.distances) (label_lines lot.labels lot.weighted lot.weights) c.matrix ∙ c.labels

-- what is known of it
pub record Passes (lot : Lot) (short beyond : Bool) : Type 0 where
  pub fits : Fits lot
  pub long : short ≡ false
  pub few : lot.n ≤ 256
  pub within : beyond ≡ false
  pub values : any bad_distance lot.distances ≡ false
  pub mirrors : unmirrored lot.n lot.distances ≡ false
  pub weights : (lot.weighted && any bad_weight lot.weights) ≡ false
  pub groups : 2 ≤ group_count lot.labels

pub passes : (lot : Lot) (short beyond : Bool) → first (test_lines lot short beyond) ≡ passed → Passes lot short beyond
passes lot short beyond e =
    let clear = passed-clear lot short beyond e in
    let sized = sizes-known (misfits lot || short) lot.n beyond clear.sizes in
    let one = or-neither (misfits lot) short sized.fit in
    let mirrored = matrix-known lot.n lot.distances clear.matrix in
    let labelled = labels-known lot.labels lot.weighted lot.weights clear.labels in
    record {
      fits = parts-fit lot one.0;
      long = one.1;
      few = sized.few;
      within = sized.within;
      values = mirrored.values;
      mirrors = mirrored.mirrors;
      weights = labelled.weighed;
      groups = labelled.groups;
    }

-- a refusal of theirs leaves what is lent alone
pub lines-untouched : (lot : Lot) (short beyond : Bool) {k : ℕ} → refused k ≡ first (test_lines lot short beyond) → untouched k ≡ true
unfolding test_lines all
lines-untouched lot short beyond e = first-untouched (test_lines lot short beyond) refl e
