-- Laws of the whole text: its lot by the stages that were reached.
use Rattle.lists.proofs.Base.{ℕ, ◌≤◌, arith, leb, leb-true, ◌≡◌, refl, sym, ap, ap₂, ◌∙◌, subst, List, [], length, replicate, length-replicate, Float}
use Rattle.lists.proofs.Base.{Bool, true, false, ◌&&◌, cond}
use Rattle.std.specs.Prelude.{Option, Some, None, Ok, Err}
use Rattle.std.specs.Bool.{then_some}
use Rattle.float.specs.Floats.{zero⁺}
use Rattle.lists.specs.{Ranges.grid, Writes.over}
use Rattle.outcome.specs.{Outcome.Outcome, Outcome.answered, Outcome.and_then}
use Rattle.outcome.specs.declared.Refusal.TheVariants.{Frame as Refusal·Frame}
use Rattle.lot.specs.Lot.{Lot}
use Rattle.judge_frames.specs.Places.{head, tail, is_end}
use Rattle.judge_frames.specs.inner.Places.{frames_from}
use Rattle.judge_frames.specs.Frames.{if_passed, header_in, sample_in, pair_in, pair_count, malformed, or_malformed, Taken, several, distance, described, lot_in, read_lot}
use Rattle.judge_frames.specs.Call.{no_distances, held, leaves, read_call, called}
use Rattle.judge_frames.specs.inner.Stages.{Opens, Took, Sampled, Paired, Room, Cleared, Reads, ReadBy}
use Rattle.judge_frames.specs.declared.{Header.Header, reader.Frame.Frame, reader.Opening.Opening, reader.Sample.Sample, reader.Pair.Pair}
use Rattle.judge_frames.specs.declared.reader.Frame.TheVariants.{Header as OfHeader, Sample as OfSample, Pair as OfPair, End}

-- ---- the stages of `read_lot`

unfoldable pub final : Opening → List Sample → List Pair → List (Option Frame) → Outcome Lot
final h samples pairs fs = cond (is_end fs) (answered (described h samples pairs)) malformed

unfoldable pub from-pairs : Opening → ℕ → List Sample → List (Option Frame) → Outcome Lot
from-pairs h n samples fs = and_then (several (pair_in n) (pair_count n) [] fs) (λ pairs. final h samples pairs.taken pairs.rest)

unfoldable pub from-samples : Opening → ℕ → List (Option Frame) → Outcome Lot
from-samples h n fs = and_then (several sample_in n [] fs) (λ samples. from-pairs h n samples.taken samples.rest)

-- none of a lot
pub unread : (text : List ℕ) (l s : List ℕ) (d : List Float) {r : Option Header} → r ≡ None → read_lot text ≡ malformed → ReadBy text l s d r
unfolding ReadBy
unread text l s d e h = subst (ReadBy text l s d) (sym e) h

-- a header's tests
pub header-tests : (f : Option Frame) {h : Opening} → header_in f ≡ Some h → (h.n ≤ 32) × (h.flag ≤ 1)
unfolding header_in
header-tests (Some (OfHeader g)) {h} e = by (leb g.n 32) (leb g.flag 1) refl refl e
  where
    by : (a b : Bool) → leb g.n 32 ≡ a → leb g.flag 1 ≡ b → if_passed (a && b) g ≡ Some h → (h.n ≤ 32) × (h.flag ≤ 1)
    by true true x y e = let same : g ≡ h = cc in subst (λ (h : Opening). (h.n ≤ 32) × (h.flag ≤ 1)) same (leb-true g.n 32 x, leb-true g.flag 1 y)
    by true false x y e = let z : ◌≡◌ {A = ℕ} 0 1 = cc in absurd (omega arith)
    by false b x y e = let z : ◌≡◌ {A = ℕ} 0 1 = cc in absurd (omega arith)
header-tests (Some (OfSample s)) e = let z : ◌≡◌ {A = ℕ} 0 1 = cc in absurd (omega arith)
header-tests (Some (OfPair p)) e = let z : ◌≡◌ {A = ℕ} 0 1 = cc in absurd (omega arith)
header-tests (Some End) e = let z : ◌≡◌ {A = ℕ} 0 1 = cc in absurd (omega arith)
header-tests None e = let z : ◌≡◌ {A = ℕ} 0 1 = cc in absurd (omega arith)

module _ (text : List ℕ) where
  by-header : (o : Option Opening) → header_in (head (frames_from text 0)) ≡ o →
      read_lot text ≡ and_then (or_malformed o) (λ h. from-samples h h.n (tail (frames_from text 0)))
  unfolding read_lot lot_in frames_from from-samples from-pairs final
  by-header o e = ap (λ (o : Option Opening). and_then (or_malformed o) (λ h. from-samples h h.n (tail (frames_from text 0)))) e

  pub no_header : header_in (head (frames_from text 0)) ≡ None → read_lot text ≡ malformed
  unfolding and_then
  no_header e = by-header None e

  module _ {h : Header} {next : ℕ} (o : Opens text h next) where
    samples-from : read_lot text ≡ from-samples o.opening h.n (frames_from text next)
    unfolding and_then
    samples-from = by-header (Some o.opening) o.is-header
        ∙ ap₂ (λ (k : ℕ) (fs : List (Option Frame)). from-samples o.opening k fs) (sym o.its-n) (sym o.the_rest)

    pub few : h.n ≤ 32
    few = omega (arith, o.its-n, (header-tests (head (frames_from text 0)) o.is-header).0)

    pub no-samples : several sample_in h.n [] (frames_from text next) ≡ malformed → read_lot text ≡ malformed
    unfolding from-samples and_then
    no-samples e = samples-from ∙ ap (λ (t : Outcome (Taken Sample)). and_then t (λ samples. from-pairs o.opening h.n samples.taken samples.rest)) e

    module _ (at : ℕ) {P : List Sample → Type 0} (s : Took (several sample_in h.n [] (frames_from text next)) (frames_from text at) P) where
      pairs-from : read_lot text ≡ from-pairs o.opening h.n s.frames (frames_from text at)
      unfolding from-samples and_then
      pairs-from = samples-from ∙ ap (λ (t : Outcome (Taken Sample)). and_then t (λ samples. from-pairs o.opening h.n samples.taken samples.rest)) s.all

      pub no_pairs : several (pair_in h.n) (pair_count h.n) [] (frames_from text at) ≡ malformed → read_lot text ≡ malformed
      unfolding from-pairs and_then
      no_pairs e = pairs-from ∙ ap (λ (t : Outcome (Taken Pair)). and_then t (λ pairs. final o.opening s.frames pairs.taken pairs.rest)) e

      module _ (last : ℕ) {Q : List Pair → Type 0} (p : Took (several (pair_in h.n) (pair_count h.n) [] (frames_from text at)) (frames_from text last) Q) where
        pub by_end : (b : Bool) → b ≡ is_end (frames_from text last) → read_lot text ≡ cond b (answered (described o.opening s.frames p.frames)) malformed
        unfolding from-pairs final and_then
        by_end b e = pairs-from
            ∙ ap (λ (t : Outcome (Taken Pair)). and_then t (λ pairs. final o.opening s.frames pairs.taken pairs.rest)) p.all
            ∙ ap (λ (b : Bool). cond b (answered (described o.opening s.frames p.frames)) malformed) (sym e)

  -- the slices hold the lot, if the frames end there
  pub reads : (at last : ℕ) {h : Header} {next : ℕ} {l s : List ℕ} {d : List Float} (o : Opens text h next)
      (t : Took (several sample_in h.n [] (frames_from text next)) (frames_from text at) (Sampled l s))
      (p : Took (several (pair_in h.n) (pair_count h.n) [] (frames_from text at)) (frames_from text last) (Paired h.n d))
      → (b : Bool) → b ≡ is_end (frames_from text last) → ReadBy text l s d (then_some b h)
  unfolding described ReadBy
  reads at last {h} {next} {l} {s} {d} o t p true e = record {
    lot = described o.opening t.frames p.frames;
    read = by_end o at t last p true e;
    header = ap₂ (λ (k : ℕ) (b : Bool). record { n = k; stratified = b }) o.its-n o.its-strata;
    labels = t.holds.labelled;
    strata = t.holds.stratified;
    distances = p.holds ∙ ap (λ (k : ℕ). over (grid k k (distance p.frames)) no_distances) o.its-n;
  }
  reads at last o t p false e = by_end o at t last p false e

-- ---- the whole call

module _ (text : List ℕ) where
  pub called-read : {h : Header} {l s : List ℕ} {d : List Float} → Reads text h l s d → called (Ok h) l s d ≡ read_call text
  unfolding read_call leaves held and_then
  called-read {h} {l} {s} {d} o =
      (λ i. record { answer = answered (o.header i); labels = o.labels i; strata = o.strata i; distances = o.distances i })
      ∙ ap leaves (sym o.read)

  pub called-refused : {l s : List ℕ} {d : List Float} → read_lot text ≡ malformed → Cleared l s d → called (Err Refusal·Frame) l s d ≡ read_call text
  unfolding read_call leaves held and_then
  called-refused e c = (λ i. record { answer = malformed; labels = c.labels i; strata = c.strata i; distances = c.distances i }) ∙ ap leaves (sym e)

-- slices that were filled by their lengths
pub cleared-all : (l s : List ℕ) (d : List Float) {l' s' : List ℕ} {d' : List Float} → Room l s d → l' ≡ replicate (length l) 0 → s' ≡ replicate (length s) 0 →
    d' ≡ replicate (length d) zero⁺ → Cleared l' s' d'
cleared-all l s d r el es ed = record {
  labels = el ∙ ap (λ (k : ℕ). replicate k 0) r.labels;
  strata = es ∙ ap (λ (k : ℕ). replicate k 0) r.strata;
  distances = ed ∙ ap (λ (k : ℕ). replicate k zero⁺) r.distances;
}

pub room-kept : {l s l' s' : List ℕ} {d d' : List Float} → Cleared l s d → length l' ≡ length l → length s' ≡ length s → length d' ≡ length d → Room l' s' d'
room-kept c el es ed = record {
  labels = el ∙ ap length c.labels ∙ length-replicate {A = ℕ} 32 0;
  strata = es ∙ ap length c.strata ∙ length-replicate {A = ℕ} 32 0;
  distances = ed ∙ ap length c.distances ∙ length-replicate 1024 zero⁺;
}
