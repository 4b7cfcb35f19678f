-- From what `exhaustive` leaves to what is found of a lot that was read.
use Rattle.lists.proofs.Base.{ℕ, ◌+◌, ◌*◌, ◌≤◌, ◌≡◌, refl, sym, ap, ap₂, ◌∙◌, subst, Bool, true, false, ◌||◌, List, [], ◌∷◌, ◌++◌, arith, mul-le-mul, ltb, replicate, le-ltb, Float}
use Rattle.float.specs.Floats.{zero⁺}
use Rattle.outcome.specs.{Refusals.Line, Refusals.◌when◌, Refusals.first, Refusals.short, Outcome.Told, Outcome.passed, Outcome.judged}
use Rattle.outcome.proofs.Table.{first-after}
use Rattle.lists.specs.Filters.{any}
use Rattle.lot.specs.{Lot.Lot, Lines.bad_distance, Lines.misfits, Lines.size_lines, Lines.matrix_lines, Lines.label_lines, Lines.test_lines}
use Rattle.limits.specs.Limits.{most_ways}
use Rattle.exhaustive_ways.specs.Ways.{ways, way_count}
use Rattle.exhaustive_hits.specs.declared.judgement.Judgement.{Judgement}
use Rattle.exhaustive_hits.specs.Exhaustive.{exhaustive}
use Rattle.exhaustive_hits.specs.Call as test
use Rattle.judge_frames.specs.Fits.{Fits}
use Rattle.judge_frames.proofs.Fits.{fits-well, read-mirrors}
use Rattle.judge.specs.{Judged.lot_lines, Judged.judgement, inner.Judging.Judging}
use Rattle.std.specs.Prelude.{Result, Option, is_some}
use Rattle.std.specs.Bool.{then_some}
use Rattle.std.specs.Borrow.{Bor}
use Rattle.outcome.specs.declared.Refusal.{Refusal}
use Rattle.outcome.specs.{Numbers.outcome_of, Outcome.Outcome}
use Rattle.lot.specs.{Lot.lot_of, Given.held_by, Kept.group_count, Strata.strata as strata·of, Strata.held_strata, Strata.strata_count}
use Rattle.exhaustive_hits.proofs.Unread.{read, exhaustive-unread}

-- slices for 32 samples
abbrev pub room : test.Slices
room =
    test.slices_of (replicate 32 0) (replicate 32 0) (replicate 32 zero⁺) (replicate 1024 zero⁺) (replicate 1024 zero⁺) (replicate 272 zero⁺) (replicate 1056 zero⁺)
    (replicate 1024 zero⁺) (replicate 1024 0)

roomy : (n : ℕ) → n ≤ 32 → test.too_short n room ≡ false
unfolding test.too_short short
roomy n h =
    let q : n * n ≤ 1024 = mul-le-mul h h in
    rw (le-ltb 32 n h, le-ltb 1024 (n * n) q, le-ltb 272 (16 + 8 * n) (omega (arith, h)), le-ltb 1056 (n + n * n) (omega (arith, h, q)))

-- of a lot that was read lines 1 and 2 do not hold
sizes-pass : (lot : Lot) (short : Bool) → Judging lot → short ≡ false → first (size_lines (misfits lot || short) lot.n false) ≡ passed
unfolding first
sizes-pass lot short f e = rw (f.well, e, le-ltb 256 lot.n (omega (arith, f.few)))

-- nor does 4, and 14 does not where 3 does not
rest : Lot → List Line
rest lot = matrix_lines lot.n lot.distances ++ label_lines lot.labels lot.weighted lot.weights ++ ((8 when ltb most_ways (way_count lot)) ∷ [])

rest-left : (lot : Lot) → Judging lot → first (rest lot) ≡ first (lot_lines lot)
unfolding rest lot_lines first
rest-left lot f = by (any bad_distance lot.distances) refl
  where
    by : (b : Bool) → any bad_distance lot.distances ≡ b → first (rest lot) ≡ first (lot_lines lot)
    by true e = rw e
    by false e = rw (e, f.mirrored e, f.unweighted)

-- so the lines of `exhaustive` come down to 3, 5 and 8
pub read-lines : (lot : Lot) (s : test.Slices) → Judging lot → test.too_short lot.n s ≡ false → first (test.exhaustive_lines lot s) ≡ first (lot_lines lot)
unfolding test.exhaustive_lines test_lines rest
read-lines lot s f e =
    first-after (size_lines (misfits lot || test.too_short lot.n s) lot.n false) (rest lot) (sizes-pass lot (test.too_short lot.n s) f e) ∙ rest-left lot f

-- what `exhaustive` answers of it
pub judged-by : (lot : Lot) (r : Result Judgement Refusal) {after : test.Slices} → Judging lot → test.called r after ≡ test.exhaustive_call lot room →
    outcome_of r ≡ judgement lot
unfolding judgement test.exhaustive_call test.call_by test.call_in test.outcome_of
judged-by lot r f e =
    ap (λ (c : test.Called). c.answer) e ∙ ap (λ (k : Told). judged k (exhaustive lot)) (read-lines lot room f (roomy lot.n f.few))

-- ---- strata that are not given are not read

module _ (n : ℕ) (distances : List Float) (labels strata : List ℕ) (weights : List Float) where
  abbrev given : Bool → Lot
  given b = lot_of n distances labels b strata false weights

  misfits-read : (b : Bool) → misfits (read (given b)) ≡ misfits (given b)
  unfolding misfits
  misfits-read true = refl
  misfits-read false = refl

  ways-read : (b : Bool) → way_count (read (given b)) ≡ way_count (given b)
  unfolding way_count ways strata·of held_strata strata_count
  ways-read true = refl
  ways-read false = refl

  pub judging-read : (b : Bool) → Fits (given b) → Judging (read (given b))
  judging-read b f = record {
    few = f.few;
    well = misfits-read b ∙ fits-well (given b) f;
    unweighted = refl;
    mirrored = read-mirrors (given b) f;
  }

  pub judgement-read : (b : Bool) → judgement (read (given b)) ≡ judgement (given b)
  unfolding judgement lot_lines
  judgement-read b = ap₂ (λ (k : ℕ) (o : Outcome Judgement). judged (first ((3 when any bad_distance distances) ∷ (5 when ltb (group_count labels) 2)
      ∷ (8 when ltb most_ways k) ∷ [])) o) (ways-read b) (exhaustive-unread (given b))

-- a lot whose strata are given where they are told to be
pub given-then : (n : ℕ) (distances : List Float) (labels : List ℕ) (strata : Bor (List ℕ)) (b : Bool) →
    lot_of n distances labels (is_some (then_some b strata)) (held_by (then_some b strata)) false [] ≡ read (lot_of n distances labels b strata.now false [])
given-then n distances labels strata true = refl
given-then n distances labels strata false = refl

module _ (n : ℕ) (distances : List Float) (labels : List ℕ) (strata : Bor (List ℕ)) (b : Bool) {given : Option (Bor (List ℕ))} (e : given ≡ then_some b strata) where
  is-read : lot_of n distances labels (is_some given) (held_by given) false [] ≡ read (lot_of n distances labels b strata.now false [])
  is-read = ap (λ (o : Option (Bor (List ℕ))). lot_of n distances labels (is_some o) (held_by o) false []) e ∙ given-then n distances labels strata b

  pub judging-front : Fits (lot_of n distances labels b strata.now false []) → Judging (lot_of n distances labels (is_some given) (held_by given) false [])
  judging-front f = subst Judging (sym is-read) (judging-read n distances labels strata.now [] b f)

  pub judgement-front : judgement (lot_of n distances labels (is_some given) (held_by given) false []) ≡ judgement (lot_of n distances labels b strata.now false [])
  judgement-front = ap judgement is-read ∙ judgement-read n distances labels strata.now [] b
