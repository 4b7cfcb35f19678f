-- What is known of a lot that no line turns away, and of its design.
use Rattle.lists.proofs.Base.{◌≡◌, sym, ap, ◌∙◌, [], ◌∷◌, ℕ, ◌*◌, ◌≤◌, mul-le-mul, arith, ltb-false, ltb, length}
use Rattle.outcome.specs.Outcome as outcome
use Rattle.outcome.proofs.Lengths.{long-at}
use Rattle.lot.specs.Lot.{Lot}
use Rattle.lot.proofs.AcceptedLots.{Passes, passes}
use Rattle.lot_design.specs.declared.Design.{Design}
use Rattle.lot_design.specs.inner.Designs.{Describes}
use Rattle.lot_design.proofs.Accepted.{kept-all, groups-all, same-n, samples-below, design-sound}
use Rattle.permanova.specs.inner.Runs.{Runs}
use Rattle.permanova.specs.Call.{Slices, slices_of, test_asks, too_short, test_check}

-- ---- a call that no line turns away

pub record Accepted (lot : Lot) (k : ℕ) (before : Slices) : Type 0 where
  pub passed : Passes lot (too_short lot.n (length before.labels) (length before.counts) (length before.means) (length before.pair_terms)
      (length before.weighted_squares)) (ltb 999999 k)
  pub shuffles : k ≤ 999999
  pub labels_room : lot.n ≤ length before.labels
  pub counts_room : lot.n ≤ length before.counts
  pub means_room : lot.n ≤ length before.means
  pub pair_terms_room : lot.n * lot.n ≤ length before.pair_terms
  pub weighted_squares_room : lot.n * lot.n ≤ length before.weighted_squares

pub accepted-call : (lot : Lot) (k : ℕ) (before : Slices) → test_check lot k before ≡ outcome.passed → Accepted lot k before
unfolding test_check too_short
accepted-call lot k before e =
    let p = passes lot _ _ e in
    let at = long-at (length before.labels ∷ length before.counts ∷ length before.means ∷ length before.pair_terms ∷ length before.weighted_squares ∷ [])
    (test_asks lot.n) p.long in
    record {
      passed = p;
      shuffles = ltb-false 999999 k p.within;
      labels_room = at 0 (omega arith) (omega arith);
      counts_room = at 1 (omega arith) (omega arith);
      means_room = at 2 (omega arith) (omega arith);
      pair_terms_room = at 3 (omega arith) (omega arith);
      weighted_squares_room = at 4 (omega arith) (omega arith);
    }

-- ---- its design

module _ (lot : Lot) (seed k : ℕ) (before : Slices) (passed : test_check lot k before ≡ outcome.passed) {d : Design} (e : Describes lot d) where
  pub names-room : (d.groups ≤ 256) × (d.groups ≤ length before.labels)
  names-room =
      let a = accepted-call lot k before passed in
      let few = groups-all lot e a.passed in
      let many = same-n lot e a.passed in (omega (arith, a.passed.few), omega (arith, a.labels_room))

  pub runs : Runs d lot (record { seed = seed; many = k }) (slices_of [] before.counts before.means before.pair_terms before.weighted_squares)
  runs =
      let a = accepted-call lot k before passed in
      let fits = a.passed.fits in
      let many = same-n lot e a.passed in
      let groups = groups-all lot e a.passed in
      let kept : d.kept ≤ lot.n = omega (arith, kept-all lot e) in
      let square : d.kept * d.kept ≤ lot.n * lot.n = mul-le-mul kept kept in
      let sound = design-sound lot e a.passed in
      record {
        described = e;
        all = many;
        weighing = record {
          sound = sound;
          samples = samples-below lot e;
          distances_fit = fits.distances_fit ∙ ap (λ (n : ℕ). n * n) (sym many);
          weights_fit = λ w. fits.weights_fit w ∙ sym many;
          weights_room = sound.few;
          pair_terms_room = omega (arith, a.pair_terms_room);
          weighted_squares_room = omega (arith, a.weighted_squares_room);
        };
        shuffles = a.shuffles;
        counts_room = omega (arith, a.counts_room);
        means_room = omega (arith, a.means_room);
      }
