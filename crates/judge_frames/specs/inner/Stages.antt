-- What the functions that read a part of a text return, and what they leave in slices. Statements only.
use Rattle.std.specs.Prelude.{ℕ, ◌≡◌, List, map, eqb, length, Float, Option, Some, None}
use Rattle.lists.specs.Ranges.{grid}
use Rattle.lists.specs.Writes.{over}
use Rattle.outcome.specs.Outcome.{Outcome, answered}
use Rattle.lot.specs.Lot.{Lot}
use Rattle.judge_frames.specs.declared.reader.{Frame.Frame, Opening.Opening, Sample.Sample, Pair.Pair}
use Rattle.judge_frames.specs.Places.{head, tail}
use Rattle.judge_frames.specs.inner.Places.{frames_from}
use Rattle.judge_frames.specs.Frames.{header_in, malformed, Taken, distance, read_lot}
use Rattle.judge_frames.specs.Call.{no_numbers, no_distances, header_of}
use Rattle.judge_frames.specs.declared.Header.{Header}

-- the first frame opens the lot: its header, and where the others go on
pub record Opens (text : List ℕ) (h : Header) (next : ℕ) : Type 0 where
  pub opening : Opening
  pub is-header : header_in (head (frames_from text 0)) ≡ Some opening
  pub its-n : h.n ≡ opening.n
  pub its-strata : h.stratified ≡ eqb opening.flag 1
  pub the_rest : frames_from text next ≡ tail (frames_from text 0)

unfoldable pub OpenedBy : List ℕ → Option (Header × ℕ) → Type 0
OpenedBy text (Some h) = Opens text h.0 h.1
OpenedBy text None = header_in (head (frames_from text 0)) ≡ None

-- all frames asked for are taken, the others go on from `rest`, and P holds of those taken
pub record Took {A : Type 0} (o : Outcome (Taken A)) (rest : List (Option Frame)) (P : List A → Type 0) : Type 0 where
  pub frames : List A
  pub all : o ≡ answered (record { taken = frames; rest = rest })
  pub holds : P frames

unfoldable pub ReachedBy : {A : Type 0} → List ℕ → Outcome (Taken A) → (List A → Type 0) → Option ℕ → Type 0
ReachedBy text o P (Some next) = Took o (frames_from text next) P
ReachedBy text o P None = o ≡ malformed

-- slices with room for 32 samples, and those that are cleared
pub record Room (l s : List ℕ) (d : List Float) : Type 0 where
  pub labels : length l ≡ 32
  pub strata : length s ≡ 32
  pub distances : length d ≡ 1024

pub record Cleared (l s : List ℕ) (d : List Float) : Type 0 where
  pub labels : l ≡ no_numbers
  pub strata : s ≡ no_numbers
  pub distances : d ≡ no_distances

-- two cleared slices got the samples' labels and strata
pub record Sampled (l s : List ℕ) (samples : List Sample) : Type 0 where
  pub labels : length l ≡ 32
  pub strata : length s ≡ 32
  pub labelled : l ≡ over (map (λ s. s.label) samples) no_numbers
  pub stratified : s ≡ over (map (λ s. s.stratum) samples) no_numbers

-- a cleared slice got the distances of the pairs
abbrev pub Paired : ℕ → List Float → List Pair → Type 0
Paired n d pairs = d ≡ over (grid n n (distance pairs)) no_distances

-- three cleared slices got the text's lot
pub record Reads (text : List ℕ) (h : Header) (l s : List ℕ) (d : List Float) : Type 0 where
  pub lot : Lot
  pub read : read_lot text ≡ answered lot
  pub header : h ≡ header_of lot
  pub labels : l ≡ over lot.labels no_numbers
  pub strata : s ≡ over lot.strata no_numbers
  pub distances : d ≡ over lot.distances no_distances

unfoldable pub ReadBy : List ℕ → List ℕ → List ℕ → List Float → Option Header → Type 0
ReadBy text l s d (Some h) = Reads text h l s d
ReadBy text l s d None = read_lot text ≡ malformed
