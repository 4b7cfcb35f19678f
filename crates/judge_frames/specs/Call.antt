-- Section 7: a whole call of `read_lot`, its answer and what the slices hold afterwards. Definitions only.
use Rattle.std.specs.Prelude.{ℕ, ◌*◌, false, List, [], take, replicate, Float, Result}
use Rattle.float.specs.Floats.{zero⁺}
use Rattle.lists.specs.Writes.{over}
use Rattle.outcome.specs.Outcome.{Outcome, answered, refused, and_then}
use Rattle.outcome.specs.Numbers.{outcome_of}
use Rattle.lot.specs.Lot.{Lot, lot_of}
use Rattle.judge_frames.specs.Frames.{read_lot}
use Rattle.judge_frames.specs.declared.Header.{Header}
use Rattle.outcome.specs.declared.Refusal.{Refusal}

-- the answer, and the slices afterwards
pub record Called : Type 0 where
  pub answer : Outcome Header
  pub labels : List ℕ
  pub strata : List ℕ
  pub distances : List Float

-- cleared slices, for 32 samples
abbrev pub no_numbers : List ℕ
no_numbers = replicate 32 0

abbrev pub no_distances : List Float
no_distances = replicate 1024 zero⁺

-- a cleared slice with a part of the lot at its front; a refusal leaves it cleared
unfoldable pub held : {A : Type 0} → List A → (Lot → List A) → Outcome Lot → List A
held clear part (answered lot) = over (part lot) clear
held clear part (refused r) = clear

-- n, and whether strata are given
abbrev pub header_of : Lot → Header
header_of lot = record { n = lot.n; stratified = lot.stratified }

unfoldable pub leaves : Outcome Lot → Called
leaves o = record {
  answer = and_then o (λ lot. answered (header_of lot));
  labels = held no_numbers (λ lot. lot.labels) o;
  strata = held no_numbers (λ lot. lot.strata) o;
  distances = held no_distances (λ lot. lot.distances) o;
}

-- the meaning of a call of `read_lot`
unfoldable pub read_call : List ℕ → Called
read_call text = leaves (read_lot text)

-- ---- how a contract says it: what is returned, and what the slices hold

abbrev pub called : Result Header Refusal → List ℕ → List ℕ → List Float → Called
called r labels strata distances = record { answer = outcome_of r; labels = labels; strata = strata; distances = distances }

-- the lot that the fronts of three slices hold, after a call that read it
abbrev pub fronts : Header → List ℕ → List ℕ → List Float → Lot
fronts h l s d = lot_of h.n (take (h.n * h.n) d) (take h.n l) h.stratified (take h.n s) false []
