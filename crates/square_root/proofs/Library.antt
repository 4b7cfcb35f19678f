-- std's root is `root`: it is taken to many more digits than an f64 has, and what the last digit says of the rest decides how it is rounded.
use Rattle.std.proofs.Common.{◌≡◌, ℕ, zero, suc, ◌+◌, ◌-◌, ◌*◌, ◌/◌, ◌%◌, ◌^◌, ◌<◌, ◌≤◌, Bool, true, false, cond, T, sym, refl, ap, ◌∙◌, subst, le_trans, le_of_eq, lt_of_lt_of_le, lt_of_le_of_lt, le_antisymm, mul-le-mul_right, mul-le-mul_left, mul-le-mul, lit<, mul-pos, mul_assoc, mul-lt-mul_of_pos_right, le_of_mul-le-mul_right, mul-div_cancel, zero-mul, arith, pow_pos, pow-add, pow_mono, le→leb}
use native.Mathlib.Nat.{mul-mul-mul_comm, mul_right_comm, le-div_iff_mul-le, div-lt_iff_lt-mul}
use Rattle.std.proofs.lemmas.Nat.{div-mul-add, mod-mul-add}
use Prim.Native.Nat.{compare, Ordering}
use borrow.Author.Tests.{eqb-true, lt-ltb}
use lib.Arith.{lt_of_le-ne}
use lib.Dec.{eqb, lt→ltb, leb→le, eqb→eq, is_le, compare_is_eq}
use lib.Ieee.{Float, nan, inf, fin, binary64, up, down, le, div, of_bits, size, nearest, odd, units as units-by, round, root_twice, root_below, sqrt, fits}
use lib.IntN.{ℤ}
use lib.Ieee.Digits.{size-le}
use lib.Ieee.Root.{Root, whole_part}
use lib.Ieee.Nearest.{closest, closest_same, div_same}
use lib.Ieee.Fits.{round_is, down_pos}
use Rattle.float.specs.{Floats.zero⁺, Value.units, Value.SignedLe}
use Rattle.float.proofs.{Units.size_exact, Units.units-grid, Units.units-pos, Units.units_lt, Units.units-exact, Units.Grid, Value.zero_exponent, Order.le-over}
use Rattle.square_root.specs.{Root.isqrt, Root.root_of, Root.root}
use Rattle.square_root.proofs.Isqrt.{IsRoot, square_le, isqrt-root}
use Rattle.square_root.proofs.Nearest.{Scaled, Rounded, scaled, halved, halved-le, scaling, square-parity, root_digits, root-rounded, root_of-is}

-- ---- `root_twice n` is twice the root of n, or the odd number between twice its two neighbours

record Twice (n w : ℕ) : Type 0 where
  at_least : (f : ℕ) → f * f ≤ n → 2 * f ≤ w
  below : (f : ℕ) → n < f * f → w < 2 * f
  whole : (f : ℕ) → w ≡ 2 * f → f * f ≡ n

less : (r n f : ℕ) → r * r ≤ n → n < f * f → r < f
less r n zero h g = absurd (omega arith)
less r n (suc f) h g = let s : suc f ≡ f + 1 = omega arith in let l = square_le r f n h (subst (λ (x : ℕ). n < x * x) s g) in omega arith

twice_of : (n r : ℕ) (b : Bool) → Root r n → eqb (r * r) n ≡ b → Twice n (2 * r + cond b 0 1)
twice_of n r true h e = record {
  at_least = λ f g. omega (arith, square_le f r n g h.1);
  below = λ f g. omega (arith, less r n f h.0 g);
  whole = λ f g. let same : r ≡ f = omega arith in subst (λ (x : ℕ). x * x ≡ n) same (eqb-true (r * r) n e);
}
twice_of n r false h e = record {
  at_least = λ f g. omega (arith, square_le f r n g h.1);
  below = λ f g. omega (arith, less r n f h.0 g);
  whole = λ f g. absurd (omega arith);
}

twice : (n : ℕ) → Twice n (root_twice n)
unfolding root_twice
twice n = twice_of n (root_below (size n) n) (eqb (root_below (size n) n * root_below (size n) n) n) (whole_part n) refl

-- ---- of n * h * h, for an even n whose whole root is s, that is 2 * h times a number from s up to s + 1, and s only where s is even

record Sides (s h w : ℕ) : Type 0 where
  at_least : 2 * (s * h) ≤ w
  below : w < 2 * ((s + 1) * h)
  whole : w ≡ 2 * (s * h) → s % 2 ≡ 0

sides : (n s h m w : ℕ) → IsRoot n s → n % 2 ≡ 0 → m ≡ n * (h * h) → 0 < h → Twice m w → Sides s h w
sides n s h m w r even e H t =
    let q : 0 < h * h = mul-pos H H in record {
      at_least = t.at_least (s * h) (le_trans (le_of_eq (mul-mul-mul_comm s h s h)) (le_trans (mul-le-mul_right (h * h) r.0) (le_of_eq (sym e))));
      below = t.below ((s + 1) * h) (lt_of_le_of_lt (le_of_eq e) (lt_of_lt_of_le (mul-lt-mul_of_pos_right r.1 q) (le_of_eq (sym (mul-mul-mul_comm (s + 1) h (s + 1) h)))));
      whole = λ g. parity (s % 2) refl (le_antisymm
          (le_of_mul-le-mul_right (le_of_eq (sym (mul-mul-mul_comm s h s h) ∙ t.whole (s * h) g ∙ e)) q)
          (le_of_mul-le-mul_right (le_of_eq (sym (sym (mul-mul-mul_comm s h s h) ∙ t.whole (s * h) g ∙ e))) q));
    }
  where
    parity : (d : ℕ) → s % 2 ≡ d → s * s ≡ n → s % 2 ≡ 0
    parity zero f g = f
    parity (suc d) f g = absurd (square-parity s n (omega arith) even g)

-- ---- and to the nearest multiple of 4 * h it is the half of s, rounded up

lower : (o : Ordering) (w : ℕ) → T (is_le o) → (T (compare_is_eq o) → ⊥) → nearest w o ≡ w
lower Ordering.lt w h k = refl
lower Ordering.eq w h k = absurd (k tt)
lower Ordering.gt w h k = absurd h

upper : (o : Ordering) (w : ℕ) → (T (is_le o) → ⊥) → nearest w o ≡ suc w
upper Ordering.lt w h = absurd (h tt)
upper Ordering.eq w h = absurd (h tt)
upper Ordering.gt w h = refl

-- t * b and r more, with r below b
down-to : (t b r a : ℕ) → a ≡ t * b + r → r * 2 < b → closest a b ≡ t
down-to t b r a e h =
    let d : a / b ≡ t = ap (λ (x : ℕ). x / b) e ∙ div-mul-add t b r (omega arith) in
    let m : a % b ≡ r = ap (λ (x : ℕ). x % b) e ∙ mod-mul-add t b r (omega arith) in
    rw (d, m) (lower (compare (r * 2) b) t (le→leb (r * 2) b (omega arith)) (λ g. absurd (omega (arith, eqb→eq (r * 2) b g))))

up-to : (t b r a : ℕ) → a ≡ t * b + r → r < b → b < r * 2 → closest a b ≡ suc t
up-to t b r a e l h =
    let d : a / b ≡ t = ap (λ (x : ℕ). x / b) e ∙ div-mul-add t b r l in
    let m : a % b ≡ r = ap (λ (x : ℕ). x % b) e ∙ mod-mul-add t b r l in
    rw (d, m) (upper (compare (r * 2) b) t (λ g. absurd (omega (arith, leb→le (r * 2) b g))))

halves : (s h w : ℕ) → 0 < h → Sides s h w → closest w (4 * h) ≡ (s + 1) / 2
halves s h w H c = go (s % 2) refl
  where
    t : ℕ
    t = s / 2

    go : (d : ℕ) → s % 2 ≡ d → closest w (4 * h) ≡ (s + 1) / 2
    go zero e =
        let is : s ≡ 2 * t = omega arith in
        let lo : 2 * (2 * t * h) ≤ w = subst (λ (x : ℕ). 2 * (x * h) ≤ w) is c.at_least in
        let hi : w < 2 * ((2 * t + 1) * h) = subst (λ (x : ℕ). w < 2 * ((x + 1) * h)) is c.below in
        let part : t * (4 * h) ≡ 2 * (2 * t * h) = omega arith in
        let room : 2 * ((2 * t + 1) * h) ≡ 2 * (2 * t * h) + 2 * h = omega arith in
        down-to t (4 * h) (w - 2 * (2 * t * h)) w (omega arith) (omega arith) ∙ omega arith
    go (suc d) e =
        let is : s ≡ 2 * t + 1 = omega arith in
        let lo : 2 * ((2 * t + 1) * h) ≤ w = subst (λ (x : ℕ). 2 * (x * h) ≤ w) is c.at_least in
        let hi : w < 2 * ((2 * t + 1 + 1) * h) = subst (λ (x : ℕ). w < 2 * ((x + 1) * h)) is c.below in
        let apart : w ≡ 2 * ((2 * t + 1) * h) → ⊥ = λ (g : w ≡ 2 * ((2 * t + 1) * h)). absurd (omega (arith, c.whole (subst (λ (x : ℕ). w ≡ 2 * (x * h)) (sym is) g))) in
        let part : 2 * ((2 * t + 1) * h) ≡ t * (4 * h) + 2 * h = omega arith in
        let room : 2 * ((2 * t + 1 + 1) * h) ≡ t * (4 * h) + 4 * h = omega arith in
        up-to t (4 * h) (w - t * (4 * h)) w (omega arith) (omega arith) (above w (2 * ((2 * t + 1) * h)) (t * (4 * h)) h lo apart part) ∙ omega arith
      where
        above : (w a b h : ℕ) → a ≤ w → (w ≡ a → ⊥) → a ≡ b + 2 * h → 4 * h < (w - b) * 2
        above w a b h l n e = let strict : a < w = lt_of_le-ne l (λ q. n (sym q)) in omega arith

-- ---- the theorem
module _ (X : ℕ) (g : Grid X) (P : 0 < X) (few : X < 2 ^ 2098) where
  abbrev k : ℕ
  k = halved X

  abbrev s : ℕ
  s = isqrt 54 (scaled X)

  abbrev h : ℕ
  h = 2 ^ (1196 + k)

  S : Scaled X
  S = scaling X g P

  squared : X * 2 ^ 3468 ≡ scaled X * (h * h)
  squared = sym (ap (λ (x : ℕ). scaled X * x) (sym (pow-add 2 (1196 + k) (1196 + k)) ∙ ap (λ (x : ℕ). 2 ^ x) (exponents k) ∙ pow-add 2 (2 * k) 2392)
      ∙ sym (mul_assoc (scaled X) (2 ^ (2 * k)) (2 ^ 2392)) ∙ ap (λ (x : ℕ). x * 2 ^ 2392) S.whole ∙ mul_assoc X (2 ^ 1076) (2 ^ 2392) ∙ ap (λ (x : ℕ). X * x) (sym (pow-add 2 1076 2392)))
    where
      exponents : (y : ℕ) → 1196 + y + (1196 + y) ≡ 2 * y + 2392
      exponents y = omega arith

  abbrev w : ℕ
  w = root_twice (X * 2 ^ 3468)

  split : Sides s h w
  split = sides (scaled X) s h (X * 2 ^ 3468) w (isqrt-root 54 (scaled X) S.below) S.even squared (pow_pos (1196 + k)) (twice (X * 2 ^ 3468))

  r : Rounded (scaled X) (root_digits X)
  r = root-rounded X g P

  least : 2 ^ 53 ≤ s
  least = square_le (2 ^ 53) s (scaled X) S.at_least (isqrt-root 54 (scaled X) S.below).1

  most : s + 1 ≤ 2 ^ 54
  most = let m : s ≤ 2 ^ 54 - 1 = square_le s (2 ^ 54 - 1) (scaled X) (isqrt-root 54 (scaled X) S.below).0 S.below in omega arith

  -- how many digits of the root are dropped
  whole : w * 2 ^ 1074 / 2 ^ 2272 ≡ w / 2 ^ 1198
  whole = div_same (w * 2 ^ 1074) (2 ^ 2272) w (2 ^ 1198) (pow_pos 2272) (pow_pos 1198) (mul_assoc w (2 ^ 1074) (2 ^ 1198) ∙ ap (λ (x : ℕ). w * x) (sym (pow-add 2 1074 1198)))

  reached : 2 ^ (52 + k) * 2 ^ 1198 ≤ w
  reached = le_trans (le_of_eq (sym (pow-add 2 (52 + k) 1198) ∙ ap (λ (x : ℕ). 2 ^ x) (exponents k) ∙ pow-add 2 54 (1196 + k) ∙ mul_assoc 2 (2 ^ 53) h))
      (le_trans (mul-le-mul_left 2 (mul-le-mul_right h least)) split.at_least)
    where
      exponents : (y : ℕ) → 52 + y + 1198 ≡ 54 + (1196 + y)
      exponents y = omega arith

  within : w < 2 ^ suc (52 + k) * 2 ^ 1198
  within = lt_of_lt_of_le split.below (le_trans (mul-le-mul_left 2 (mul-le-mul_right h most))
      (le_of_eq (sym (sym (pow-add 2 (suc (52 + k)) 1198) ∙ ap (λ (x : ℕ). 2 ^ x) (exponents k) ∙ pow-add 2 55 (1196 + k) ∙ mul_assoc 2 (2 ^ 54) h))))
    where
      exponents : (y : ℕ) → suc (52 + y) + 1198 ≡ 55 + (1196 + y)
      exponents y = omega arith

  dropped : size (w * 2 ^ 1074 / 2 ^ 2272) - 53 ≡ k
  dropped = ap (λ (x : ℕ). size x - 53) whole
      ∙ ap (λ (x : ℕ). x - 53) (size_exact (52 + k) (w / 2 ^ 1198) ((le-div_iff_mul-le (pow_pos 1198)).1 reached) ((div-lt_iff_lt-mul (pow_pos 1198)).1 within)) ∙ back k
    where
      back : (y : ℕ) → suc (52 + y) - 53 ≡ y
      back y = omega arith

  -- and how the rest is rounded
  kept : closest (w * 2 ^ 1074) (2 ^ 2272 * 2 ^ k) ≡ root_digits X
  kept = closest_same (w * 2 ^ 1074) (2 ^ 2272 * 2 ^ k) w (4 * h) (mul-pos (pow_pos 2272) (pow_pos k)) (mul-pos (lit< tt) (pow_pos (1196 + k)))
      (mul_assoc w (2 ^ 1074) (4 * h) ∙ ap (λ (x : ℕ). w * x) (ap (λ (x : ℕ). 2 ^ 1074 * x) (sym (pow-add 2 2 (1196 + k))) ∙ sym (pow-add 2 1074 (2 + (1196 + k))) ∙ ap (λ (x : ℕ). 2 ^ x) (exponents k) ∙ pow-add 2 2272 k))
      ∙ halves s h w (pow_pos (1196 + k)) split
    where
      exponents : (y : ℕ) → 1074 + (2 + (1196 + y)) ≡ 2272 + y
      exponents y = omega arith

  small : root_digits X * 2 ^ k < 2 ^ 2098
  small = lt_of_le_of_lt (mul-le-mul r.few (pow_mono (halved-le (size X) (size-le X 2098 few)))) (lit< tt)

  made : units-by binary64 false (root_digits X) k ≡ odd 54 false (root_digits X) k 1074
  unfolding units-by
  made = rw (lt-ltb (root_digits X * 2 ^ k) (2 ^ 2098) small) refl

  rounded-root : round binary64 false w (2 ^ 2272) ≡ root_of X
  rounded-root = round_is binary64 false w (2 ^ 2272) ∙ ap (λ (z : ℕ). units-by binary64 false (closest (w * 2 ^ 1074) (2 ^ 2272 * 2 ^ z)) z) dropped
      ∙ ap (λ (q : ℕ). units-by binary64 false q k) kept ∙ made ∙ sym (root_of-is X)

pub sqrt-root : (x : Float) → T (fits binary64 x) → sqrt binary64 x ≡ root x
unfolding sqrt root
sqrt-root nan p = refl
sqrt-root (inf true) p = refl
sqrt-root (inf false) p = refl
sqrt-root (fin t zero e) p = ap (λ (d : ℤ). fin t 0 d) (sym (zero_exponent binary64 t e p))
sqrt-root (fin true (suc m) e) p = refl
sqrt-root (fin false (suc m) e) p =
    let x = fin false (suc m) e in
    ap (λ (n : ℕ). round binary64 false (root_twice n) (2 ^ 2272)) (scaled-up (suc m * up e) (units x) (down e) (units-exact x p tt).1 (down_pos e))
    ∙ rounded-root (units x) (units-grid x p tt) (units-pos x (lt→ltb 0 (suc m) (omega arith)) p) (units_lt x p tt)
  where
    scaled-up : (a X d : ℕ) → a * 2 ^ 1074 ≡ X * d → 0 < d → a * 2 ^ 4542 / d ≡ X * 2 ^ 3468
    scaled-up a X d e D = ap (λ (y : ℕ). y / d) (ap (λ (y : ℕ). a * y) (pow-add 2 1074 3468) ∙ sym (mul_assoc a (2 ^ 1074) (2 ^ 3468)) ∙ ap (λ (y : ℕ). y * 2 ^ 3468) e ∙ mul_right_comm X d (2 ^ 3468))
        ∙ mul-div_cancel (X * 2 ^ 3468) D

-- ---- what is below zero, and NaN
zero-le : (t : Bool) (m : ℕ) (e : ℤ) → SignedLe false 0 t (m * up e) → T (le zero⁺ (fin t m e))
zero-le t m e = (le-over zero⁺ (fin t m e) false 0 t (m * up e) (down e) (down_pos e) (unfold of_bits in (refl, zero-mul (down e))) (refl, refl)).1

pub root-none : (x : Float) → (T (le zero⁺ x) → ⊥) → div binary64 zero⁺ zero⁺ ≡ root x
unfolding div of_bits root
root-none nan n = refl
root-none (inf true) n = refl
root-none (inf false) n = absurd (n (unfold le in tt))
root-none (fin true zero e) n = absurd (n (zero-le true 0 e (omega (arith, zero-mul (up e)))))
root-none (fin true (suc m) e) n = refl
root-none (fin false m e) n = absurd (n (zero-le false m e (omega arith)))
