-- Laws of frames taken one after the other. A loop takes m frames by a test from place `from` on, and after k of them stands at place `at`.
use Rattle.lists.proofs.Base.{ℕ, suc, ◌+◌, ◌-◌, ◌<◌, ◌≤◌, ◌≡◌, refl, sym, ap, ap₂, subst, ◌∙◌, List, [], ◌∷◌, ◌++◌, map}
use Rattle.lists.proofs.Base.{arith, eqb, length, set, length-append, length-set, length-replicate, eq-eqb, ne_eqb, lt-leb, le-leb}
use Rattle.std.specs.Prelude.{Option, Some, None}
use Rattle.lists.specs.Writes.{over}
use Rattle.lists.proofs.{Ranges.map_last, Writes.over_none, Writes.over-next}
use Rattle.outcome.specs.Outcome.{Outcome}
use Rattle.judge_frames.specs.{Places.head, Places.tail, Frames.header_in, Frames.sample_in, Frames.malformed, Frames.Taken, Frames.several}
use Rattle.judge_frames.specs.inner.{Places.frames_from, Places.IsLine, Stages.Opens, Stages.OpenedBy, Stages.Took, Stages.ReachedBy, Stages.Sampled}
use Rattle.judge_frames.specs.Call.{no_numbers}
use Rattle.judge_frames.specs.declared.{Header.Header, reader.Frame.Frame, reader.Opening.Opening, reader.Sample.Sample}
use Rattle.judge_frames.specs.declared.reader.Frame.TheVariants.{Header as OfHeader, Sample as OfSample, Pair as OfPair, End}

-- ---- several frames

pub record Taking {A : Type 0} (text : List ℕ) (may : List A → Option Frame → Option A) (m from : ℕ) (P : List A → Type 0) (at k : ℕ) : Type 0 where
  pub frames : List A
  pub many : length frames ≡ k
  pub most : k ≤ m
  pub onward : several may (m - k) frames (frames_from text at) ≡ several may m [] (frames_from text from)
  pub holds : P frames

-- what is taken next, and the rest
then : {A : Type 0} → (List A → Option Frame → Option A) → ℕ → List A → List (Option Frame) → Option A → Outcome (Taken A)
then may left before fs (Some a) = several may left (before ++ (a ∷ [])) fs
then may left before fs None = malformed

several-by : {A : Type 0} (may : List A → Option Frame → Option A) (left : ℕ) (before : List A) (fs gs : List (Option Frame)) (f : Option Frame) (o : Option A) →
    f ≡ head fs → gs ≡ tail fs → may before f ≡ o → several may (suc left) before fs ≡ then may left before gs o
unfolding several then
several-by {A} may left before fs gs f o e g t = cases (may before (head fs))
    ∙ ap₂ (λ (hs : List (Option Frame)) (x : Option A). then may left before hs x) (sym g) (ap (may before) (sym e) ∙ t)
  where
    cases : (o : Option A) → elim o as (λ t. Outcome (Taken A)) [ Some a ↦ several may left (before ++ (a ∷ [])) (tail fs) | None ↦ malformed ] ≡ then may left before (tail fs) o
    cases (Some a) = refl
    cases None = refl

module _ {A : Type 0} (text : List ℕ) (may : List A → Option Frame → Option A) (m from : ℕ) where
  pub taking-none : (P : List A → Type 0) → P [] → Taking text may m from P from 0
  taking-none P p = let z : m - 0 ≡ m = omega arith in
      record { frames = []; many = refl; most = omega arith; onward = ap (λ (i : ℕ). several may i [] (frames_from text from)) z; holds = p }

  module _ {P : List A → Type 0} {at k : ℕ} (t : Taking text may m from P at k) where
    pub taking-all : m ≤ k → Took (several may m [] (frames_from text from)) (frames_from text at) P
    unfolding several
    taking-all h =
        let z : m - k ≡ 0 = omega arith in
        record { frames = t.frames; all = sym t.onward ∙ ap (λ (i : ℕ). several may i t.frames (frames_from text at)) z; holds = t.holds }

    module _ {f : Option Frame} {next : ℕ} (l : IsLine text at f next) (h : k < m) where
      step : (o : Option A) → may t.frames f ≡ o → several may (m - k) t.frames (frames_from text at) ≡ then may (m - (k + 1)) t.frames (frames_from text next) o
      step o e =
          let a : m - k ≡ suc (m - (k + 1)) = omega arith in
          ap (λ (i : ℕ). several may i t.frames (frames_from text at)) a
          ∙ several-by may (m - (k + 1)) t.frames (frames_from text at) (frames_from text next) f o l.its-frame l.the_rest e

      pub taking-other : may t.frames f ≡ None → several may m [] (frames_from text from) ≡ malformed
      unfolding then
      taking-other e = sym t.onward ∙ step None e

      pub taking-next : (Q : List A → Type 0) {a : A} → may t.frames f ≡ Some a → Q (t.frames ++ (a ∷ [])) → Taking text may m from Q next (k + 1)
      unfolding then
      taking-next Q {a} e q = record {
        frames = t.frames ++ (a ∷ []);
        many = length-append t.frames (a ∷ []) ∙ ap (λ (i : ℕ). i + 1) t.many;
        most = omega arith;
        onward = sym (step (Some a) e) ∙ t.onward;
        holds = q;
      }

-- no more of them
pub unreached : {A : Type 0} (text : List ℕ) (P : List A → Type 0) {o : Outcome (Taken A)} {r : Option ℕ} → r ≡ None → o ≡ malformed → ReachedBy text o P r
unfolding ReachedBy
unreached text P {o} e h = subst (ReachedBy text o P) (sym e) h

-- what holds of the frames, in other words
pub took-as : {A : Type 0} {o : Outcome (Taken A)} {rest : List (Option Frame)} {P Q : List A → Type 0} → ((frames : List A) → P frames → Q frames) → Took o rest P → Took o rest Q
took-as says t = record { frames = t.frames; all = t.all; holds = says t.frames t.holds }

-- ---- the header

pub unopened : (text : List ℕ) {r : Option (Header × ℕ)} → r ≡ None → header_in (head (frames_from text 0)) ≡ None → OpenedBy text r
unfolding OpenedBy
unopened text e h = subst (OpenedBy text) (sym e) h

module _ {text : List ℕ} {o : Option Frame} {next : ℕ} (l : IsLine text 0 o next) where
  header-by : {r : Option Opening} → header_in o ≡ r → header_in (head (frames_from text 0)) ≡ r
  header-by e = ap header_in (sym l.its-frame) ∙ e

  pub no-line : o ≡ None → header_in (head (frames_from text 0)) ≡ None
  unfolding header_in
  no-line e = header-by (ap header_in e)

  pub not-a1 : {f : Frame} → o ≡ Some f → ((h : Opening) → f ≡ OfHeader h → ⊥) → header_in (head (frames_from text 0)) ≡ None
  unfolding header_in
  not-a1 {f} e n = header-by (ap header_in e ∙ other f n)
    where
      other : (f : Frame) → ((h : Opening) → f ≡ OfHeader h → ⊥) → header_in (Some f) ≡ None
      other (OfHeader h) n = absurd (n h refl)
      other (OfSample s) n = refl
      other (OfPair p) n = refl
      other End n = refl

  module _ {f : Frame} {h : Opening} (e : o ≡ Some f) (g : f ≡ OfHeader h) where
    as-header : {r : Option Opening} → header_in (Some (OfHeader h)) ≡ r → header_in (head (frames_from text 0)) ≡ r
    as-header a = header-by (ap header_in (e ∙ ap Some g) ∙ a)

    pub too_many : 32 < h.n → header_in (head (frames_from text 0)) ≡ None
    unfolding header_in
    too_many a = as-header (rw (lt-leb h.n 32 a))

    pub not-a-flag : h.n ≤ 32 → 1 < h.flag → header_in (head (frames_from text 0)) ≡ None
    unfolding header_in
    not-a-flag a b = as-header (rw (le-leb h.n 32 a, lt-leb h.flag 1 b))

    pub is-header : (x : Header) → h.n ≤ 32 → h.flag ≤ 1 → x.n ≡ h.n → x.stratified ≡ eqb h.flag 1 → Opens text x next
    unfolding header_in
    is-header x a b c d = record {
      opening = h;
      is-header = as-header (rw (le-leb h.n 32 a, le-leb h.flag 1 b));
      its-n = c;
      its-strata = d;
      the_rest = l.the_rest;
    }

-- ---- the samples

pub no-frame : (before : List Sample) {o : Option Frame} → o ≡ None → sample_in before o ≡ None
unfolding sample_in
no-frame before e = ap (sample_in before) e

pub not-a2 : (before : List Sample) {o : Option Frame} {f : Frame} → o ≡ Some f → ((s : Sample) → f ≡ OfSample s → ⊥) → sample_in before o ≡ None
unfolding sample_in
not-a2 before {o} {f} e n = ap (sample_in before) e ∙ other f n
  where
    other : (f : Frame) → ((s : Sample) → f ≡ OfSample s → ⊥) → sample_in before (Some f) ≡ None
    other (OfHeader h) n = refl
    other (OfSample s) n = absurd (n s refl)
    other (OfPair p) n = refl
    other End n = refl

module _ (before : List Sample) {o : Option Frame} {f : Frame} {s : Sample} (e : o ≡ Some f) (g : f ≡ OfSample s) {k : ℕ} (m : length before ≡ k) where
  pub out_of_order : (s.index ≡ k → ⊥) → sample_in before o ≡ None
  unfolding sample_in
  out_of_order n = ap (sample_in before) (e ∙ ap Some g) ∙ rw (m, ne_eqb s.index k n)

  pub is-sample : s.index ≡ k → sample_in before o ≡ Some s
  unfolding sample_in
  is-sample h = ap (sample_in before) (e ∙ ap Some g) ∙ rw (m, eq-eqb s.index k h)

pub blank : {l : List ℕ} → l ≡ no_numbers → length l ≡ 32
blank e = ap length e ∙ length-replicate {A = ℕ} 32 0

pub sampled-none : {l s : List ℕ} → l ≡ no_numbers → s ≡ no_numbers → Sampled l s []
sampled-none e g = record { labels = blank e; strata = blank g; labelled = e ∙ sym (over_none no_numbers); stratified = g ∙ sym (over_none no_numbers) }

pub length-map : (g : Sample → ℕ) (ss : List Sample) → length (map g ss) ≡ length ss
length-map g [] = refl
length-map g (s ∷ ss) = ap suc (length-map g ss)

one_more : (g : Sample → ℕ) (ss : List Sample) (s : Sample) {l : List ℕ} {k : ℕ} → length ss ≡ k → k < 32 → l ≡ over (map g ss) no_numbers →
    set l k (g s) ≡ over (map g (ss ++ (s ∷ []))) no_numbers
one_more g ss s m h e = over-next (map g ss) no_numbers e (length-map g ss ∙ m) refl (omega (arith, length-replicate {A = ℕ} 32 0))
    ∙ ap (λ (t : List ℕ). over t no_numbers) (sym (map_last g ss s))

pub sampled-next : (ss : List Sample) (s : Sample) {l t : List ℕ} {k : ℕ} → length ss ≡ k → k < 32 → Sampled l t ss →
    Sampled (set l k s.label) (set t k s.stratum) (ss ++ (s ∷ []))
sampled-next ss s {l} {t} {k} m h e = record {
  labels = length-set l k s.label ∙ e.labels;
  strata = length-set t k s.stratum ∙ e.strata;
  labelled = one_more (λ s. s.label) ss s m h e.labelled;
  stratified = one_more (λ s. s.stratum) ss s m h e.stratified;
}
