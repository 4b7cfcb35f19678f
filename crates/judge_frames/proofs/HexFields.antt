-- Laws of hexadecimal fields: one digit more, and which fields are there.
use Rattle.lists.proofs.Base.{ℕ, suc, ◌+◌, ◌*◌, ◌^◌, ◌<◌, ◌≤◌, ◌≡◌, refl, ap, List, arith, add-one, drop-cons, le-leb, lt-leb}
use native.Mathlib.Nat.{pow-le-pow_right}
use lib.ListN.{length, get_or, take, drop, drop_of_length-le}
use Rattle.std.specs.Prelude.{Option, Some, None}
use Rattle.judge_frames.specs.Hex.{nibble, spelled, field_at}

-- ---- digits, one after the other

-- what a digit leaves to be spelled
after : ℕ → List ℕ → Option ℕ → Option ℕ
after v s (Some d) = spelled (v * 16 + d) s
after v s None = None

spelled-by : (v : ℕ) (s : List ℕ) (i : ℕ) {o : Option ℕ} → i < length s → o ≡ nibble (get_or s i 0) → spelled v (drop i s) ≡ after v (drop (i + 1) s) o
unfolding spelled after
spelled-by v s i h e = rw (add-one, drop-cons s i 0, e) (cases (nibble (get_or s i 0)))
  where
    cases : (o : Option ℕ) → elim o as (λ d. Option ℕ) [ Some d ↦ spelled (v * 16 + d) (drop (suc i) s) | None ↦ None ] ≡ after v (drop (suc i) s) o
    cases (Some d) = refl
    cases None = refl

pub spelled-digit : (v : ℕ) (s : List ℕ) (i d : ℕ) → i < length s → Some d ≡ nibble (get_or s i 0) → spelled v (drop i s) ≡ spelled (v * 16 + d) (drop (i + 1) s)
unfolding after
spelled-digit v s i d h e = spelled-by v s i h e

-- a byte that is no digit is met
pub spelled-other : (v : ℕ) (s : List ℕ) (i : ℕ) → i < length s → None ≡ nibble (get_or s i 0) → spelled v (drop i s) ≡ None
unfolding after
spelled-other v s i h e = spelled-by v s i h e

pub spelled-end : (v : ℕ) (s : List ℕ) (i : ℕ) → length s ≤ i → spelled v (drop i s) ≡ Some v
unfolding spelled
spelled-end v s i h = ap (spelled v) (drop_of_length-le s {i = i} h)

-- ---- how large a number is

pub pow_step : (i v d : ℕ) → v < 16 ^ i → d < 16 → v * 16 + d < 16 ^ (i + 1)
pow_step i v d h g = rw add-one (omega arith)

pub pow-fits : (i : ℕ) → i ≤ 16 → 16 ^ i ≤ 18446744073709551616
pow-fits i h = pow-le-pow_right {n = 16} (omega arith) h

-- ---- which fields are there

pub field-there : (s : List ℕ) (at k : ℕ) → k ≤ 16 → at + k ≤ length s → field_at s at k ≡ spelled 0 (take k (drop at s))
unfolding field_at
field-there s at k h g = rw (le-leb k 16 h, le-leb (at + k) (length s) g)

pub field-long : (s : List ℕ) (at k : ℕ) → 16 < k → field_at s at k ≡ None
unfolding field_at
field-long s at k h = rw (lt-leb k 16 h)

pub field_past : (s : List ℕ) (at k : ℕ) → k ≤ 16 → length s < at + k → field_at s at k ≡ None
unfolding field_at
field_past s at k h g = rw (le-leb k 16 h, lt-leb (at + k) (length s) g)
