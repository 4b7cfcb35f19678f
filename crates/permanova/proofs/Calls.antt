-- A whole call.
use Rattle.lists.proofs.Base.{◌≡◌, ap, ap₂, ◌∙◌, Bool, true, List, [], ℕ, ltb, length}
use Rattle.lists.specs.Writes.{over}
use Rattle.std.specs.Prelude.{Result, Ok, Err}
use Rattle.outcome.specs.declared.Refusal.{Refusal}
use Rattle.outcome.specs.{Numbers.number, Numbers.told, Refusals.first}
use Rattle.outcome.specs.Outcome.{Told, passed, answered, refused, judged}
use Rattle.outcome.specs.Slices.{untouched, output, work}
use Rattle.lot.specs.{Lot.Lot, Lines.test_lines}
use Rattle.lot_design.specs.declared.Design.{Design}
use Rattle.lot_design.specs.inner.Designs.{group_labels_of, Describes}
use Rattle.permanova_sampling.specs.declared.TestResult.{TestResult}
use Rattle.permanova_sampling.specs.Tested.{tested}
use Rattle.permanova.specs.inner.{Runs.Ran, Call.accepted}
use Rattle.permanova.specs.Call.{Slices, Called, slices_of, too_short, test_check, leaves, test_call, called}
use Rattle.outcome.proofs.Table.{told-refused}
use Rattle.lot.proofs.AcceptedLots.{lines-untouched}

-- ---- what is left for the lot that a design describes is what an accepted call leaves

module _ (lot : Lot) (seed k : ℕ) {d : Design} (e : Describes lot d) where
  -- what a run is lent of the slices: all but the names
  abbrev unnamed : Slices → Slices
  unnamed s = slices_of [] s.counts s.means s.pair_terms s.weighted_squares

  pub call-answered : (before after : Slices) {r : TestResult} → after.labels ≡ over (group_labels_of d) before.labels
      → Ran lot (record { seed = seed; many = k }) (unnamed before) (unnamed after) r → called (Ok r) after ≡ accepted lot seed k before
  unfolding accepted leaves output work
  call-answered before after {r} named ran = λ i. record {
    answer = answered (ran.answers.result i);
    after = record {
      labels = (named ∙ ap (λ (l : List ℕ). over l before.labels) e.names_are) i;
      counts = ran.answers.listed.sizes i;
      means = ran.answers.listed.mean_z i;
      pair_terms = ran.pair_terms i;
      weighted_squares = ran.weighted_squares i;
    };
  }

-- ---- by whether a line of the table holds

module _ (lot : Lot) (seed k : ℕ) (before : Slices) where
  -- the check as the code makes it
  pub checked : {short beyond : Bool} {c : Told}
      → short ≡ too_short lot.n (length before.labels) (length before.counts) (length before.means) (length before.pair_terms) (length before.weighted_squares)
      → beyond ≡ ltb 999999 k → c ≡ first (test_lines lot short beyond) → c ≡ test_check lot k before
  unfolding test_check
  checked s b e = e ∙ ap₂ (λ (x y : Bool). first (test_lines lot x y)) s b

  -- a refusal leaves all as it was
  pub call-refused : {c : Result Unit Refusal} {r : Refusal} → told c ≡ test_check lot k before → c ≡ Err r → called (Err r) before ≡ test_call lot seed k before
  unfolding test_call leaves output work
  call-refused {c} {r} h i =
      let e = told-refused h i in
      let stays : untouched (number r) ≡ true = lines e in
      let whole : called (Err r) before ≡ leaves lot (judged (refused (number r)) (answered (tested lot seed k))) before = rw stays in
      whole ∙ ap (λ (c : Told). leaves lot (judged c (answered (tested lot seed k))) before) e
    where
      lines : refused (number r) ≡ test_check lot k before → untouched (number r) ≡ true
      lines e = unfold test_check in lines-untouched lot _ _ e

  pub call-passed : {r : Called} → passed ≡ test_check lot k before → r ≡ accepted lot seed k before → r ≡ test_call lot seed k before
  unfolding test_call accepted
  call-passed e h = h ∙ ap (λ (c : Told). leaves lot (judged c (answered (tested lot seed k))) before) e
