-- Every lot that is read fits its n, is symmetric and has a diagonal of 0; so the table's first line does not hold for it, and where 3 does not hold 14 does not.
use Rattle.lists.proofs.Base.{ℕ, zero, suc, ◌+◌, ◌*◌, ◌≡◌, refl, sym, ap, ap₂, ◌∙◌, subst, Bool, true, false, ◌&&◌, ◌||◌, cond, List, [], ◌∷◌, ◌++◌}
use Rattle.lists.proofs.Base.{map, ⊎_elim, arith, zero-add, ltb, length, length-append, ◌≤◌, nan, is_nan, Float, eq-eqb, ltb-true, lt-ltb, not, not-false, ◌<◌}
use lib.Dec.{T}
use lib.Ieee.{le, ne}
use Rattle.float.specs.Floats.{f64, zero⁺, 2^20}
use Rattle.lists.specs.{Filters.all, Filters.any, Rows.entry}
use Rattle.lists.proofs.{Ranges.length-grid, Rows.entry-grid, Rows.cell_below, Members.member-get_or, Members.any-fails, Truths.and_both}
use Rattle.outcome.specs.Outcome.{Outcome, answered, refused, and_then}
use Rattle.float.proofs.{Tests.passes, Nan.nan-ne, Order.right-number}
use Rattle.lot.specs.{Lot.Lot, Mirror.unmirrored, Lines.bad_distance, Lines.misfits}
use Rattle.lot.proofs.Mirrored.{mirrors-unmirrored}
use Rattle.std.specs.Prelude.{Option, Some, None}
use Rattle.judge_frames.specs.declared.reader.{Frame.Frame, Opening.Opening, Sample.Sample, Pair.Pair}
use Rattle.judge_frames.specs.declared.reader.Frame.TheVariants.{Header as OfHeader, Sample as OfSample, Pair as OfPair, End}
use Rattle.judge_frames.specs.{Frame.frame, TextLines.text_lines, Places.is_end, Places.head, Places.tail}
use Rattle.judge_frames.specs.Frames.{if_passed, header_in, sample_in, joins, is_new, pair_in, pair_count, malformed, or_malformed, Taken, several, distance, described, lot_in, read_lot}
use Rattle.judge_frames.specs.Fits.{Fits}
use Rattle.judge_frames.proofs.{TakenFrames.length-map, ReadStages.header-tests, ReadStages.final, ReadStages.from-pairs, ReadStages.from-samples}
use Rattle.judge_frames.proofs.Pairing.{both, joins-turn, joined, pair-tests}

-- ---- what was answered, step by step

never : {A : Type 0} {B : Type 0} {o : Outcome A} {a : A} → o ≡ malformed → o ≡ answered a → B
never e g = let z : ◌≡◌ {A = ℕ} 0 1 = cc in absurd (omega arith)

pub by-test : {A : Type 0} (b : Bool) (o : Outcome A) {a : A} → cond b o malformed ≡ answered a → (b ≡ true) × (o ≡ answered a)
by-test true o e = (refl, e)
by-test false o e = never refl e

pub record Then {A B : Type 0} (o : Outcome A) (f : A → Outcome B) (b : B) : Type 0 where
  pub value : A
  pub before : o ≡ answered value
  pub after : f value ≡ answered b

pub by-step : {A B : Type 0} (o : Outcome A) (f : A → Outcome B) {b : B} → and_then o f ≡ answered b → Then o f b
unfolding and_then
by-step (answered a) f e = record { value = a; before = refl; after = e }
by-step (refused r) f e = let z : ◌≡◌ {A = ℕ} 0 1 = cc in absurd (omega arith)

-- ---- the frames that were taken

-- the next one, and what follows it
pub record Next {A : Type 0} (may : List A → Option Frame → Option A) (m : ℕ) (before : List A) (fs : List (Option Frame)) (t : Taken A) : Type 0 where
  pub value : A
  pub may-follow : may before (head fs) ≡ Some value
  pub after : several may m (before ++ (value ∷ [])) (tail fs) ≡ answered t

pub by-turn : {A : Type 0} (may : List A → Option Frame → Option A) (m : ℕ) (before : List A) (fs : List (Option Frame)) (t : Taken A) →
    several may (suc m) before fs ≡ answered t → Next may m before fs t
unfolding several
by-turn {A} may m before fs t e = by (may before (head fs)) refl e
  where
    by : (o : Option A) → may before (head fs) ≡ o
        → elim o as (λ t. Outcome (Taken A)) [ Some a ↦ several may m (before ++ (a ∷ [])) (tail fs) | None ↦ malformed ] ≡ answered t → Next may m before fs t
    by (Some a) g h = record { value = a; may-follow = g; after = h }
    by None g h = never refl h

pub several-length : {A : Type 0} (may : List A → Option Frame → Option A) (m : ℕ) (before : List A) (fs : List (Option Frame)) (t : Taken A) →
    several may m before fs ≡ answered t → length t.taken ≡ length before + m
unfolding several
several-length may zero before fs t e = let same : t.taken ≡ before = cc in ap length same ∙ omega arith
several-length may (suc m) before fs t e =
    let n = by-turn may m before fs t e in
    several-length may m (before ++ (n.value ∷ [])) (tail fs) t n.after ∙ omega (arith, length-append before (n.value ∷ []))

up : Pair → Bool
up p = ltb p.i p.j

all-last : (ps : List Pair) (p : Pair) → all up ps ≡ true → up p ≡ true → all up (ps ++ (p ∷ [])) ≡ true
unfolding all
all-last [] p h e = ap (λ (b : Bool). b && true) e
all-last (q ∷ ps) p h e = let s = both (up q) (all up ps) h in ap₂ (λ (a b : Bool). a && b) s.0 (all-last ps p s.1 e)

-- what each keeps holds of all that are taken
pub several-keeps : {A : Type 0} (may : List A → Option Frame → Option A) (P : List A → Type 0) →
    ((before : List A) (f : Option Frame) (a : A) → may before f ≡ Some a → P before → P (before ++ (a ∷ []))) →
    (m : ℕ) (before : List A) (fs : List (Option Frame)) (t : Taken A) → P before → several may m before fs ≡ answered t → P t.taken
unfolding several
several-keeps may P keeps zero before fs t h e = let same : before ≡ t.taken = cc in subst P same h
several-keeps may P keeps (suc m) before fs t h e =
    let n = by-turn may m before fs t e in
    several-keeps may P keeps m (before ++ (n.value ∷ [])) (tail fs) t (keeps before (head fs) n.value n.may-follow h) n.after

-- a pair that is taken is new
pub is-taken : (n : ℕ) (before : List Pair) (f : Option Frame) {p : Pair} → pair_in n before f ≡ Some p → is_new n before p ≡ true
unfolding pair_in
is-taken n before (Some (OfPair q)) {p} e = by (is_new n before q) refl e
  where
    by : (b : Bool) → is_new n before q ≡ b → if_passed b q ≡ Some p → is_new n before p ≡ true
    by true g h = let same : q ≡ p = cc in subst (λ (p : Pair). is_new n before p ≡ true) same g
    by false g h = let z : ◌≡◌ {A = ℕ} 0 1 = cc in absurd (omega arith)
is-taken n before (Some (OfHeader h)) e = let z : ◌≡◌ {A = ℕ} 0 1 = cc in absurd (omega arith)
is-taken n before (Some (OfSample s)) e = let z : ◌≡◌ {A = ℕ} 0 1 = cc in absurd (omega arith)
is-taken n before (Some End) e = let z : ◌≡◌ {A = ℕ} 0 1 = cc in absurd (omega arith)
is-taken n before None e = let z : ◌≡◌ {A = ℕ} 0 1 = cc in absurd (omega arith)

several-up : (n m : ℕ) (fs : List (Option Frame)) (t : Taken Pair) → several (pair_in n) m [] fs ≡ answered t → all up t.taken ≡ true
unfolding up all
several-up n m fs t e =
    several-keeps (pair_in n) (λ ps. all up ps ≡ true)
    (λ before f p g h. all-last before p h (lt-ltb p.i p.j (pair-tests n before p (is-taken n before f g)).0)) m [] fs t refl e

-- ---- distances

distance-turn : (ps : List Pair) (i j : ℕ) → distance ps i j ≡ distance ps j i
unfolding distance
distance-turn [] i j = refl
distance-turn (p ∷ ps) i j = ap₂ (λ (b : Bool) (x : Float). cond b (f64 p.bits) x) (joins-turn i j p) (distance-turn ps i j)

no-pair : (i : ℕ) (p : Pair) → up p ≡ true → (b : Bool) → joins i i p ≡ b → b ≡ false
unfolding up
no-pair i p u true e =
    let h = ltb-true p.i p.j u in
    absurd (⊎_elim (λ s. omega (arith, h, s.0, s.1)) (λ s. omega (arith, h, s.0, s.1)) (joined i i p e))
no-pair i p u false e = refl

distance-diagonal : (ps : List Pair) (i : ℕ) → all up ps ≡ true → distance ps i i ≡ zero⁺
unfolding distance all
distance-diagonal [] i h = refl
distance-diagonal (p ∷ ps) i h =
    let s = both (up p) (all up ps) h in
    ap (λ (b : Bool). cond b (f64 p.bits) (distance ps i i)) (no-pair i p s.0 (joins i i p) refl) ∙ distance-diagonal ps i s.1

-- ---- the lot

described-fits : (h : Opening) (samples : List Sample) (pairs : List Pair) → h.n ≤ 32 → length samples ≡ h.n → all up pairs ≡ true → Fits (described h samples pairs)
unfolding described
described-fits h samples pairs e m u =
    let n = h.n in
    record {
      few = e;
      labels = length-map (λ s. s.label) samples ∙ m;
      strata = length-map (λ s. s.stratum) samples ∙ m;
      distances = length-grid n n (distance pairs);
      unweighted = refl;
      weights = refl;
      symmetric = λ i j g k. entry-grid n n (distance pairs) i j g k ∙ distance-turn pairs i j ∙ sym (entry-grid n n (distance pairs) j i k g);
      diagonal = λ i g. entry-grid n n (distance pairs) i i g g ∙ distance-diagonal pairs i u;
    }

pub by-header : {B : Type 0} (f : Option Frame) (g : Opening → Outcome B) {b : B} → and_then (or_malformed (header_in f)) g ≡ answered b →
    (h : Opening) × (header_in f ≡ Some h) × (g h ≡ answered b)
unfolding and_then
by-header f g {b} e = by (header_in f) refl e
  where
    by : (o : Option Opening) → header_in f ≡ o → and_then (or_malformed o) g ≡ answered b → (h : Opening) × (header_in f ≡ Some h) × (g h ≡ answered b)
    by (Some h) x y = (h, x, y)
    by None x y = never refl y

in-fits : (fs : List (Option Frame)) (lot : Lot) → lot_in fs ≡ answered lot → Fits lot
unfolding lot_in from-samples from-pairs final all
in-fits fs lot e =
    let h = by-header (head fs) (λ h. from-samples h h.n (tail fs)) e in
    let n = h.0.n in
    let s = by-step (several sample_in n [] (tail fs)) (λ t. from-pairs h.0 n t.taken t.rest) h.2 in
    let p = by-step (several (pair_in n) (pair_count n) [] s.value.rest) (λ t. final h.0 s.value.taken t.taken t.rest) s.after in
    let l = by-test (is_end p.value.rest) (answered (described h.0 s.value.taken p.value.taken)) p.after in
    let same : described h.0 s.value.taken p.value.taken ≡ lot = cc in
    subst Fits same (described-fits h.0 s.value.taken p.value.taken (header-tests (head fs) h.1).0
    (several-length sample_in n [] (tail fs) s.value s.before ∙ zero-add n) (several-up n (pair_count n) s.value.rest p.value p.before))

pub read_fits : (text : List ℕ) (lot : Lot) → read_lot text ≡ answered lot → Fits lot
unfolding read_lot
read_fits text lot e = in-fits (map frame (text_lines text)) lot e

-- line 1 does not hold for what is read
pub fits-well : (lot : Lot) → Fits lot → misfits lot ≡ false
unfolding misfits
fits-well lot f =
    rw (eq-eqb (length lot.distances) (lot.n * lot.n) f.distances, eq-eqb (length lot.labels) lot.n f.labels, eq-eqb (length lot.strata) lot.n f.strata, f.unweighted)
    (neither lot.stratified)
  where
    neither : (b : Bool) → ((b && false) || false) ≡ false
    neither true = refl
    neither false = refl

-- a distance that line 3 lets pass equals itself
equals_itself : (x : Float) → bad_distance x ≡ false → ne x x ≡ false
equals_itself x e = nan-ne x ∙ number (is_nan x) (right-number zero⁺ x (passes (and_both (le zero⁺ x) (le x 2^20) (not-false _ e)).0))
  where
    number : (b : Bool) → T (not b) → b ≡ false
    number true h = absurd h
    number false h = refl

-- nor does 14, where 3 does not
pub read-mirrors : (lot : Lot) → Fits lot → any bad_distance lot.distances ≡ false → unmirrored lot.n lot.distances ≡ false
unfolding entry
read-mirrors lot f e =
    let n = lot.n in
    let d = lot.distances in
    let itself : (i j : ℕ) → i < n → j < n → ne (entry n d i j) (entry n d i j) ≡ false =
    λ i j g k. equals_itself (entry n d i j) (any-fails bad_distance d e (entry n d i j) (member-get_or d (i * n + j) nan (omega (arith, cell_below n n i j g k, f.distances)))) in
    mirrors-unmirrored n d (record {
      symmetric = λ i j g k. ap (ne (entry n d i j)) (sym (f.symmetric i j g k)) ∙ itself i j g k;
      diagonal = λ i g. ap (ne (entry n d i i)) (sym (f.diagonal i g)) ∙ itself i i g g;
    })
