-- The laws of packed truths: a bit set, and bits that stand in both of two rows.
use Rattle.lists.proofs.Base.{◌≡◌, refl, sym, ◌∙◌, ap, ap₂, Bool, true, false, ◌&&◌, cond, List, [], ◌∷◌, map, ℕ, zero, suc, ◌+◌, ◌*◌}
use Rattle.lists.proofs.Base.{◌/◌, ◌%◌, ◌^◌, ◌<◌, ◌≤◌, min, max, arith, length, get_or, take, drop, set, replicate, length-drop}
use native.Mathlib.Nat.{not-suc-le-zero, le_of_suc-le-suc, pow-suc}
use lib.Bits.{bit_and, bit_or, and_step, or_step, and_zero_l, and_zero_r, or_zero_r}
use lib.Count.{ones, ones_in, ones_step}
use lib.Seq.{drop-set-lt, drop-set-add, take-set-le}
use Rattle.lists.specs.{Filters.count_if, Ranges.range, Ranges.table}
use Rattle.lists.proofs.{Ranges.table-range, Parts.drop-map}
use Rattle.ordination_gram.specs.inner.Bits.{bit, pack, packed, common}

-- ---- one word

half : (p : ℕ) (b : Bool) → (p * 2 + bit b) / 2 ≡ p
half p true = omega arith
half p false = omega arith

low : (p : ℕ) (b : Bool) → (p * 2 + bit b) % 2 ≡ bit b
low p true = omega arith
low p false = omega arith

max-one : (b : Bool) → max (bit b) 1 ≡ 1
max-one true = refl
max-one false = refl

max-zero : (b : Bool) → max (bit b) 0 ≡ bit b
max-zero true = refl
max-zero false = refl

min-bit : (a b : Bool) → min (bit a) (bit b) ≡ bit (a && b)
min-bit true true = refl
min-bit true false = refl
min-bit false true = refl
min-bit false false = refl

-- one bit set
pub or-mark : (d r : ℕ) (l : List Bool) → r < d → r < length l → bit_or (pack d l) (2 ^ r) ≡ pack d (set l r true)
unfolding pack
or-mark zero r l h k = absurd (not-suc-le-zero h)
or-mark (suc d) r [] h k = absurd (not-suc-le-zero k)
or-mark (suc d) zero (b ∷ l) h k = or_step (pack d l * 2 + bit b) 1 ∙ (rw (half (pack d l) b, low (pack d l) b, or_zero_r (pack d l), max-one b))
or-mark (suc d) (suc r) (b ∷ l) h k =
    let e : 2 ^ suc r / 2 ≡ 2 ^ r = omega (arith, pow-suc 2 r) in
    let f : 2 ^ suc r % 2 ≡ 0 = omega (arith, pow-suc 2 r) in
    or_step (pack d l * 2 + bit b) (2 ^ suc r) ∙ (rw (half (pack d l) b, low (pack d l) b, e, f, max-zero b, or-mark d r l (le_of_suc-le-suc h) (le_of_suc-le-suc k)))

-- only the first d truths count
pack-take : (d : ℕ) (l : List Bool) → pack d (take d l) ≡ pack d l
unfolding pack
pack-take zero l = refl
pack-take (suc d) [] = refl
pack-take (suc d) (b ∷ l) = ap (λ (p : ℕ). p * 2 + bit b) (pack-take d l)

-- how many places are true in both
unfoldable pub both : List Bool → List Bool → ℕ
both [] m = 0
both (a ∷ l) [] = 0
both (a ∷ l) (b ∷ m) = bit (a && b) + both l m

pub and-count : (d : ℕ) (l m : List Bool) → ones (bit_and (pack d l) (pack d m)) ≡ both (take d l) (take d m)
unfolding pack both ones ones_in
and-count zero l m = ap ones (and_zero_l 0)
and-count (suc d) [] m = ap ones (and_zero_l (pack (suc d) m))
and-count (suc d) (a ∷ l) [] = ap ones (and_zero_r (pack d l * 2 + bit a))
and-count (suc d) (a ∷ l) (b ∷ m) =
    let p = pack d l in
    let q = pack d m in
    let whole : bit_and (p * 2 + bit a) (q * 2 + bit b) ≡ bit_and p q * 2 + bit (a && b) =
    and_step (p * 2 + bit a) (q * 2 + bit b) ∙ (rw (half p a, half q b, low p a, low q b, min-bit a b)) in
    ap ones whole ∙ (ones_step (bit_and p q * 2 + bit (a && b)) ∙ (rw (half (bit_and p q) (a && b), low (bit_and p q) (a && b), and-count d l m)))

-- ---- rows of words

-- bit r of word q
pub packed-mark : (k q r : ℕ) (l : List Bool) → q < k → r < 64 → q * 64 + r < length l
    → set (packed k l) q (bit_or (get_or (packed k l) q 0) (2 ^ r)) ≡ packed k (set l (q * 64 + r) true)
unfolding packed
packed-mark zero q r l h f g = absurd (not-suc-le-zero h)
packed-mark (suc k) zero r l h f g =
    let e : 0 * 64 + r ≡ r = omega arith in
    rw e (ap₂ (λ (x : ℕ) (xs : List ℕ). x ∷ xs) (or-mark 64 r l f (omega arith)) (ap (packed k) (sym (drop-set-lt 64 l r true f))))
packed-mark (suc k) (suc q) r l h f g =
    let e : suc q * 64 + r ≡ 64 + (q * 64 + r) = omega arith in
    let d = length-drop 64 l in
    let front : pack 64 (set l (64 + (q * 64 + r)) true) ≡ pack 64 l =
    sym (pack-take 64 (set l (64 + (q * 64 + r)) true)) ∙ (ap (pack 64) (take-set-le 64 l (64 + (q * 64 + r)) true (omega arith)) ∙ pack-take 64 l) in
    rw (e, front, drop-set-add 64 l (q * 64 + r) true) (ap (λ (xs : List ℕ). pack 64 l ∷ xs) (packed-mark k q r (drop 64 l) (le_of_suc-le-suc h) f (omega arith)))

both-split : (d : ℕ) (l m : List Bool) → both (take d l) (take d m) + both (drop d l) (drop d m) ≡ both l m
unfolding both
both-split zero l m = omega arith
both-split (suc d) [] m = refl
both-split (suc d) (a ∷ l) [] = omega (arith, both-nil (drop d l))
  where
    both-nil : (l : List Bool) → both l [] ≡ 0
    both-nil [] = refl
    both-nil (a ∷ l) = refl
both-split (suc d) (a ∷ l) (b ∷ m) = omega (arith, both-split d l m)

pub common-packed : (k : ℕ) (l m : List Bool) → length l ≤ k * 64 → common (packed k l) (packed k m) ≡ both l m
unfolding common packed both
common-packed zero [] m h = refl
common-packed zero (a ∷ l) m h = absurd (omega arith)
common-packed (suc k) l m h =
    let d = length-drop 64 l in
    ap₂ (λ (x y : ℕ). x + y) (and-count 64 l m) (common-packed k (drop 64 l) (drop 64 m) (omega arith)) ∙ both-split 64 l m

-- which of m numbers pass two tests
both-map : {A : Type 0} (p q : A → Bool) (l : List A) → both (map p l) (map q l) ≡ count_if (λ h. p h && q h) l
unfolding both count_if
both-map p q [] = refl
both-map p q (x ∷ l) = ap₂ (λ (a b : ℕ). a + b) (one (p x && q x)) (both-map p q l)
  where
    one : (b : Bool) → bit b ≡ cond b 1 0
    one true = refl
    one false = refl

pub both-table : (p q : ℕ → Bool) (m : ℕ) → both (table m p) (table m q) ≡ count_if (λ c. p c && q c) (range 0 m)
both-table p q m = ap₂ both (table-range p m) (table-range q m) ∙ both-map p q (range 0 m)

-- no bit set
pack-none : (d : ℕ) (l : List ℕ) → pack d (map (λ h. false) l) ≡ 0
unfolding pack
pack-none zero l = refl
pack-none (suc d) [] = refl
pack-none (suc d) (x ∷ l) = ap (λ (p : ℕ). p * 2 + 0) (pack-none d l)

packed-map : (k : ℕ) (l : List ℕ) → packed k (map (λ h. false) l) ≡ replicate k 0
unfolding packed
packed-map zero l = refl
packed-map (suc k) l = rw (pack-none 64 l, drop-map (λ h. false) 64 l) (ap (λ (xs : List ℕ). 0 ∷ xs) (packed-map k (drop 64 l)))

pub packed_none : (k m : ℕ) → packed k (table m (λ h. false)) ≡ replicate k 0
packed_none k m = ap (packed k) (table-range (λ h. false) m) ∙ packed-map k (range 0 m)

-- bit c of a row of k words
mark-packed : (k : ℕ) (l : List Bool) (c : ℕ) → c < length l → c < k * 64
    → set (packed k l) (c / 64) (bit_or (get_or (packed k l) (c / 64) 0) (2 ^ (c % 64))) ≡ packed k (set l c true)
mark-packed k l c h f =
    let e : c / 64 * 64 + c % 64 ≡ c = omega arith in
    packed-mark k (c / 64) (c % 64) l (omega arith) (omega arith) (omega arith) ∙ ap (λ (j : ℕ). packed k (set l j true)) e

pub marked : (k : ℕ) (l : List Bool) {row row' : List ℕ} {c : ℕ} → row ≡ packed k l → row' ≡ set row (c / 64) (bit_or (get_or row (c / 64) 0) (2 ^ (c % 64)))
    → c < length l → c < k * 64 → row' ≡ packed k (set l c true)
marked k l {row} {row'} {c} e f h g = f ∙ ap (λ (r : List ℕ). set r (c / 64) (bit_or (get_or r (c / 64) 0) (2 ^ (c % 64)))) e ∙ mark-packed k l c h g

pub length-packed : (k : ℕ) (l : List Bool) → length (packed k l) ≡ k
unfolding packed
length-packed zero l = refl
length-packed (suc k) l = ap suc (length-packed k (drop 64 l))
