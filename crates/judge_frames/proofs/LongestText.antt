-- No text that describes a lot is longer than that of 32 samples: 11,834 bytes. A longer one is 12, so its first 11,835 bytes tell.
use Rattle.lists.proofs.Base.{ℕ, zero, suc, ◌+◌, ◌*◌, ◌<◌, ◌≤◌, ◌≡◌, refl, sym, ap, ◌∙◌, List, [], ◌∷◌, ◌++◌, map, arith, mul-le-mul}
use Rattle.lists.proofs.Base.{eqb, length, take, length-take-le, take_all, dec_lt, eqb-true}
use mathlib.Core.Bool.{Bool, true, false, cond, false≢true}
use Rattle.limits.specs.Limits.{most_text}
use Rattle.outcome.specs.Outcome.{Outcome, answered, refused, and_then}
use Rattle.lot.specs.Lot.{Lot}
use Rattle.std.specs.Prelude.{Option, Some, None}
use Rattle.judge_frames.specs.declared.reader.{Frame.Frame, Opening.Opening, Sample.Sample, Pair.Pair}
use Rattle.judge_frames.specs.declared.reader.Frame.TheVariants.{Header as OfHeader, Sample as OfSample, Pair as OfPair, End}
use Rattle.judge_frames.specs.{Hex.field_at, Frame.◌>>=◌, Frame.opening, Frame.sample, Frame.pair, Frame.of_length, Frame.of_kind, Frame.frame}
use Rattle.judge_frames.specs.{TextLines.feed, TextLines.text_lines, Places.closes, Places.is_end, Places.head, Places.tail}
use Rattle.judge_frames.specs.Frames.{header_in, sample_in, pair_in, pair_count, malformed, or_malformed, Taken, several, described, lot_in, read_lot}
use Rattle.judge_frames.proofs.{Pairing.both, ReadStages.header-tests, ReadStages.final, ReadStages.from-pairs, ReadStages.from-samples}
use Rattle.judge_frames.proofs.Fits.{by-test, by-step, by-header, by-turn}

-- ---- the bytes of lines, with a line feed for each

width : List (List ℕ) → ℕ
width [] = 0
width (l ∷ ls) = length l + 1 + width ls

lines-width : (text : List ℕ) → length text ≤ width (text_lines text)
unfolding text_lines width
lines-width [] = omega arith
lines-width (c ∷ text) = by (feed c) (text_lines text) (lines-width text)
  where
    by : (b : Bool) (ls : List (List ℕ)) → length text ≤ width ls →
        suc (length text) ≤ width (elim b as (λ b. List (List ℕ)) [
          | true ↦ [] ∷ ls
          | false ↦ elim ls as (λ ls. List (List ℕ)) [ [] ↦ (c ∷ []) ∷ [] | l ∷ ls ↦ (c ∷ l) ∷ ls ]
        ])
    by true ls h = omega arith
    by false [] h = omega arith
    by false (l ∷ ls) h = omega arith

-- ---- the digits of a line of each kind

digits : Frame → ℕ
digits (OfHeader h) = 6
digits (OfSample s) = 12
digits (OfPair p) = 22
digits End = 2

never : {A B : Type 0} {a : A} → None ≡ Some a → B
never e = let z : ◌≡◌ {A = ℕ} 0 1 = cc in absurd (omega arith)

opening-digits : (line : List ℕ) {f : Frame} → opening line ≡ Some f → digits f ≡ 6
unfolding opening digits
opening-digits line {f} e = by (field_at line 2 2) (field_at line 4 2) e
  where
    by : (x y : Option ℕ) → (x >>= λ n. y >>= λ flag. Some (OfHeader (record { n = n; flag = flag }))) ≡ Some f → digits f ≡ 6
    by (Some x) (Some y) g = let same : f ≡ OfHeader (record { n = x; flag = y }) = cc in ap digits same
    by (Some x) None g = never g
    by None y g = never g

sample-digits : (line : List ℕ) {f : Frame} → sample line ≡ Some f → digits f ≡ 12
unfolding sample digits
sample-digits line {f} e = by (field_at line 2 2) (field_at line 4 4) (field_at line 8 4) e
  where
    by : (x y z : Option ℕ) → (x >>= λ i. y >>= λ l. z >>= λ s. Some (OfSample (record { index = i; label = l; stratum = s }))) ≡ Some f → digits f ≡ 12
    by (Some x) (Some y) (Some z) g = let same : f ≡ OfSample (record { index = x; label = y; stratum = z }) = cc in ap digits same
    by (Some x) (Some y) None g = never g
    by (Some x) None z g = never g
    by None y z g = never g

pair-digits : (line : List ℕ) {f : Frame} → pair line ≡ Some f → digits f ≡ 22
unfolding pair digits
pair-digits line {f} e = by (field_at line 2 2) (field_at line 4 2) (field_at line 6 16) e
  where
    by : (x y z : Option ℕ) → (x >>= λ i. y >>= λ j. z >>= λ b. Some (OfPair (record { i = i; j = j; bits = b }))) ≡ Some f → digits f ≡ 22
    by (Some x) (Some y) (Some z) g = let same : f ≡ OfPair (record { i = x; j = y; bits = z }) = cc in ap digits same
    by (Some x) (Some y) None g = never g
    by (Some x) None z g = never g
    by None y z g = never g

of_length-is : (k : ℕ) (line : List ℕ) (o : Option Frame) {f : Frame} → of_length k line o ≡ Some f → (length line ≡ k) × (o ≡ Some f)
of_length-is k line o {f} e = by (eqb (length line) k) refl e
  where
    by : (b : Bool) → eqb (length line) k ≡ b → cond b o None ≡ Some f → (length line ≡ k) × (o ≡ Some f)
    by true g h = (eqb-true (length line) k g, h)
    by false g h = never h

frame-length : (line : List ℕ) {f : Frame} → frame line ≡ Some f → length line ≡ digits f
unfolding frame of_kind digits
frame-length line {f} e = by (field_at line 0 2) e
  where
    by-kind : (p q r s : Bool)
        → cond p (of_length 6 line (opening line)) (cond q (of_length 12 line (sample line)) (cond r (of_length 22 line (pair line)) (cond s (of_length 2 line (Some End)) None))) ≡ Some f
        → length line ≡ digits f
    by-kind true q r s g = let t = of_length-is 6 line (opening line) g in t.0 ∙ sym (opening-digits line t.1)
    by-kind false true r s g = let t = of_length-is 12 line (sample line) g in t.0 ∙ sym (sample-digits line t.1)
    by-kind false false true s g = let t = of_length-is 22 line (pair line) g in t.0 ∙ sym (pair-digits line t.1)
    by-kind false false false true g = let t = of_length-is 2 line (Some End) g in let u = t.1 in let same : f ≡ End = cc in t.0 ∙ ap digits (sym same)
    by-kind false false false false g = never g

    by : (o : Option ℕ) → (o >>= of_kind line) ≡ Some f → length line ≡ digits f
    by (Some k) g = by-kind (eqb k 0xa1) (eqb k 0xa2) (eqb k 0xa3) (eqb k 0xaf) g
    by None g = never g

-- ---- the bytes of frames that are taken

record Left (ls : List (List ℕ)) (bytes : ℕ) (rest : List (Option Frame)) : Type 0 where
  left : List (List ℕ)
  are : rest ≡ map frame left
  wide : width ls ≡ bytes + width left

-- a frame of d digits
Digits : ℕ → Option Frame → Type 0
Digits d f = (g : Frame) × (f ≡ Some g) × (digits g ≡ d)

several-width : {A : Type 0} (may : List A → Option Frame → Option A) (d : ℕ) → ((before : List A) (f : Option Frame) (a : A) → may before f ≡ Some a → Digits d f) →
    (m : ℕ) (before : List A) (ls : List (List ℕ)) (t : Taken A) → several may m before (map frame ls) ≡ answered t → Left ls (m * (d + 1)) t.rest
unfolding several head tail width Digits
several-width may d kind zero before ls t e = let same : t.rest ≡ map frame ls = cc in record { left = ls; are = same; wide = omega arith }
several-width may d kind (suc m) before [] t e =
    let n = by-turn may m before [] t e in never (kind before None n.value n.may-follow).1
several-width may d kind (suc m) before (l ∷ ls) t e =
    let n = by-turn may m before (map frame (l ∷ ls)) t e in
    let r = several-width may d kind m (before ++ (n.value ∷ [])) ls t n.after in
    let g = kind before (frame l) n.value n.may-follow in
    record { left = r.left; are = r.are; wide = omega (arith, r.wide, frame-length l g.1, g.2) }

sample-kind : (before : List Sample) (f : Option Frame) (s : Sample) → sample_in before f ≡ Some s → Digits 12 f
unfolding sample_in Digits digits
sample-kind before (Some (OfHeader h)) s e = never e
sample-kind before (Some (OfSample t)) s e = (OfSample t, refl, refl)
sample-kind before (Some (OfPair p)) s e = never e
sample-kind before (Some End) s e = never e
sample-kind before None s e = never e

pair-kind : (n : ℕ) (before : List Pair) (f : Option Frame) (p : Pair) → pair_in n before f ≡ Some p → Digits 22 f
unfolding pair_in Digits digits
pair-kind n before (Some (OfHeader h)) p e = never e
pair-kind n before (Some (OfSample s)) p e = never e
pair-kind n before (Some (OfPair q)) p e = (OfPair q, refl, refl)
pair-kind n before (Some End) p e = never e
pair-kind n before None p e = never e

header-kind : (f : Option Frame) {h : Opening} → header_in f ≡ Some h → Digits 6 f
unfolding header_in Digits digits
header-kind (Some (OfHeader h)) e = (OfHeader h, refl, refl)
header-kind (Some (OfSample s)) e = never e
header-kind (Some (OfPair p)) e = never e
header-kind (Some End) e = never e
header-kind None e = never e

end-kind : (f : Option Frame) → closes f ≡ true → Digits 2 f
unfolding Digits digits
end-kind (Some (OfHeader h)) e = absurd (false≢true e)
end-kind (Some (OfSample s)) e = absurd (false≢true e)
end-kind (Some (OfPair p)) e = absurd (false≢true e)
end-kind (Some End) e = (End, refl, refl)
end-kind None e = absurd (false≢true e)

end-width : (ls : List (List ℕ)) → is_end (map frame ls) ≡ true → width ls ≡ 3
unfolding is_end width Digits
end-width [] e = absurd (false≢true e)
end-width (l ∷ []) e = let g = end-kind (frame l) (both (closes (frame l)) true e).0 in omega (arith, frame-length l g.1, g.2)
end-width (l ∷ k ∷ ls) e =
    absurd (omega (arith, eqb-true (suc (length (map frame ls))) 0 (both (closes (frame l)) (eqb (suc (length (map frame ls))) 0) e).1))

few-pairs : (n : ℕ) → n ≤ 32 → pair_count n ≤ 496
few-pairs zero h = omega arith
few-pairs (suc n) h = let a : suc n * n ≤ 32 * 31 = mul-le-mul {n₂ = 32} {m₂ = 31} h (omega arith) in omega (arith, a)

in-width : (ls : List (List ℕ)) (lot : Lot) → lot_in (map frame ls) ≡ answered lot → width ls ≤ most_text
unfolding lot_in from-samples from-pairs final head tail width Digits
in-width [] lot e = never (header-kind None (by-header None (λ h. from-samples h h.n []) e).1).1
in-width (l ∷ ls) lot e =
    let h = by-header (frame l) (λ h. from-samples h h.n (map frame ls)) e in
    let n = h.0.n in
    let s = by-step (several sample_in n [] (map frame ls)) (λ t. from-pairs h.0 n t.taken t.rest) h.2 in
    let p = by-step (several (pair_in n) (pair_count n) [] s.value.rest) (λ t. final h.0 s.value.taken t.taken t.rest) s.after in
    let z = by-test (is_end p.value.rest) (answered (described h.0 s.value.taken p.value.taken)) p.after in
    let a = several-width sample_in 12 sample-kind n [] ls s.value s.before in
    let b = several-width (pair_in n) 22 (pair-kind n) (pair_count n) [] a.left p.value
    (ap (several (pair_in n) (pair_count n) []) (sym a.are) ∙ p.before) in
    let c = end-width b.left (ap is_end (sym b.are) ∙ z.0) in
    let g = header-kind (frame l) h.1 in
    let few = (header-tests (frame l) h.1).0 in omega (arith, a.wide, b.wide, c, frame-length l g.1, g.2, few, few-pairs n few)

pub longest : (text : List ℕ) (lot : Lot) → read_lot text ≡ answered lot → length text ≤ most_text
unfolding read_lot
longest text lot e = omega (arith, lines-width text, in-width (text_lines text) lot e)

-- ---- a longer one is 12

only-by : {A : Type 0} (b : Bool) (o : Outcome A) {r : ℕ} → cond b o malformed ≡ refused r → (o ≡ refused r → r ≡ 12) → r ≡ 12
only-by true o e f = f e
only-by false o e f = cc

only_then : {A B : Type 0} (o : Outcome A) (f : A → Outcome B) {r : ℕ} → and_then o f ≡ refused r →
    (o ≡ refused r → r ≡ 12) → ((a : A) → f a ≡ refused r → r ≡ 12) → r ≡ 12
unfolding and_then
only_then (answered a) f e first then = then a e
only_then (refused s) f {r} e first then = let same : s ≡ r = cc in first (ap refused same)

several-only : {A : Type 0} (may : List A → Option Frame → Option A) (m : ℕ) (before : List A) (fs : List (Option Frame)) {r : ℕ} →
    several may m before fs ≡ refused r → r ≡ 12
unfolding several
several-only may zero before fs e = let z : ◌≡◌ {A = ℕ} 0 1 = cc in absurd (omega arith)
several-only {A} may (suc m) before fs {r} e = by (may before (head fs)) e (λ a. several-only may m (before ++ (a ∷ [])) (tail fs))
  where
    by : (o : Option A) → elim o as (λ t. Outcome (Taken A)) [ Some a ↦ several may m (before ++ (a ∷ [])) (tail fs) | None ↦ malformed ] ≡ refused r
        → ((a : A) → several may m (before ++ (a ∷ [])) (tail fs) ≡ refused r → r ≡ 12) → r ≡ 12
    by (Some a) g more = more a g
    by None g more = cc

final-only : (h : Opening) (samples : List Sample) (pairs : List Pair) (fs : List (Option Frame)) {r : ℕ} → final h samples pairs fs ≡ refused r → r ≡ 12
unfolding final
final-only h samples pairs fs {r} e =
    only-by (is_end fs) (answered (described h samples pairs)) e (λ g. let z : ◌≡◌ {A = ℕ} 0 1 = cc in absurd (omega arith))

header-only : (o : Option Opening) {r : ℕ} → or_malformed o ≡ refused r → r ≡ 12
header-only (Some h) e = let z : ◌≡◌ {A = ℕ} 0 1 = cc in absurd (omega arith)
header-only None e = cc

in-only : (fs : List (Option Frame)) {r : ℕ} → lot_in fs ≡ refused r → r ≡ 12
unfolding lot_in from-samples from-pairs final
in-only fs e =
    only_then (or_malformed (header_in (head fs))) (λ h. from-samples h h.n (tail fs)) e (header-only (header_in (head fs))) (λ h g.
    only_then (several sample_in h.n [] (tail fs)) (λ t. from-pairs h h.n t.taken t.rest) g (several-only sample_in h.n [] (tail fs)) (λ s k.
    only_then (several (pair_in h.n) (pair_count h.n) [] s.rest) (λ t. final h s.taken t.taken t.rest) k
    (several-only (pair_in h.n) (pair_count h.n) [] s.rest) (λ p. final-only h s.taken p.taken p.rest)))

pub too_long : (text : List ℕ) → most_text < length text → read_lot text ≡ malformed
unfolding read_lot
too_long text h = by (read_lot text) refl
  where
    by : (o : Outcome Lot) → read_lot text ≡ o → o ≡ malformed
    by (answered lot) e = absurd (omega (arith, longest text lot e))
    by (refused r) e = ap refused (in-only (map frame (text_lines text)) e)

-- so the first 11,835 bytes of a text tell
pub front-tells : (text : List ℕ) → read_lot (take (most_text + 1) text) ≡ read_lot text
front-tells text = elim (dec_lt most_text (length text)) [
  | yes l ↦ too_long (take (most_text + 1) text) (omega (arith, length-take-le (most_text + 1) text l)) ∙ sym (too_long text l)
  | no s ↦ ap read_lot (take_all (most_text + 1) text (omega arith))
]
