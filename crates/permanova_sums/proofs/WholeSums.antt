-- Sums of whole numbers as floats are exact: sums and pair sums of terms that are whole numbers are the whole-number sums, up to 2 ^ 53.
use Rattle.lists.proofs.Base.{◌≡◌, refl, sym, ap, ◌∙◌, subst, inl, inr, ℕ, ◌+◌, ◌-◌, ◌*◌, ◌^◌, ◌<◌, ◌≤◌, arith, length}
use mathlib.Core.Bool.{Bool, true, false, false≢true}
use mathlib.Core.List.{List, [], ◌∷◌, ◌++◌, map, Memᴰ as Member}
use native.Mathlib.Nat.{add-zero, add_assoc, zero-add, mul-one, mul_right_comm, eq_of_mul-eq-mul_right, mul-le-mul, le_refl, zero-lt-suc}
use lib.IntN.{pos}
use lib.Dec.{T, eqb, eqb→eq}
use lib.Ieee.{Float, inf, fin, binary64, up, down, unlike, round, eq, of_bits, of_int, neg}
use lib.Ieee.Exact.{HasValue}
use lib.Ieee.Fits.{of_int-fits, down_pos, and_l}
use Rattle.float.specs.{Floats.◌⊕◌, Floats.◌⊗◌, Floats.num, Floats.zero⁺, Floats.zero⁻, Value.SignedLe}
use Rattle.float.specs.inner.Whole.{Whole as WholeFloat}
use Rattle.float.proofs.{Order.eq-value, Product.mul-values, Sum.add-neg-zero, Sum.neg-zero-add, Whole.of_nat-value, Whole.add-of_nat, Whole.of_nat_zero}
use Rattle.lists.specs.{Ranges.range, Filters.pairs, Numbers.sumℕ, Sums.sum_from, Rows.entry}
use Rattle.lists.proofs.{Ranges.range-more, Ranges.length-range, Members.member-up_from, Sums.sum-append}
use Rattle.lists.proofs.Numbers.{sumℕ-append, sumℕ-le, pairs-le, rows-pairs}
use Rattle.permanova_sums.specs.PairSums.{row_sum, rows_sum, pair_sum}

-- ---- a float that equals a whole number

equal-value : (x y : Float) (n : ℕ) → HasValue y false n 1 → T (eq x y) → (s : Bool) × HasValue x s n 1
unfolding eq
equal-value lib.Ieee.nan y n v h = elim h [ ]
equal-value (inf s) lib.Ieee.nan n v h = elim v [ ]
equal-value (inf s) (inf _) n v h = elim v [ ]
equal-value (fin s m e) lib.Ieee.nan n v h = elim v [ ]
equal-value (fin s m e) (inf _) n v h = elim v [ ]
equal-value (inf s) (fin t k d) n v h = absurd h
equal-value (fin s m e) (fin t k d) n v h =
    let same : m * up e * down d ≡ k * up d * down e = eqb→eq _ _ (and_l (eqb (m * up e * down d) (k * up d * down e)) _ h) in
    let whole : k * up d ≡ n * down d = sym (mul-one (k * up d)) ∙ v.1 in
    let both : m * up e * down d ≡ n * down e * down d = same ∙ ap (λ (z : ℕ). z * down e) whole ∙ mul_right_comm n (down d) (down e) in
    (s, (refl, mul-one (m * up e) ∙ eq_of_mul-eq-mul_right (down d) (down_pos d) (m * up e) (n * down e) both))

-- its value, and its sign, which is minus only for 0
pub record Valued (x : Float) (n : ℕ) : Type 0 where
  pub minus : Bool
  pub value : HasValue x minus n 1
  pub signed : minus ≡ true → n ≡ 0

pub valued : (x : Float) (n : ℕ) → n ≤ 2 ^ 53 → T (eq x (num n)) → Valued x n
valued x n h e =
    let v = of_nat-value binary64 n h in
    let r = equal-value x (num n) n v e in
    record { minus = r.0; value = r.1; signed = plus r.0 ((eq-value x (num n) r.0 n 1 false n 1 (zero-lt-suc 0) (zero-lt-suc 0) r.1 v).0 e).1 }
  where
    plus : (s : Bool) → SignedLe false (n * 1) s (n * 1) → s ≡ true → n ≡ 0
    plus true l s = omega arith
    plus false l s = absurd (false≢true s)

pub square-whole : (x : Float) (n : ℕ) → Valued x n → x ⊗ x ≡ num (n * n)
unfolding of_int
square-whole x n e = mul-values binary64 x x e.minus n 1 e.minus n 1 (zero-lt-suc 0) (zero-lt-suc 0) e.value e.value
    ∙ ap (λ (s : Bool). round binary64 s (n * n) 1) (alike e.minus)
  where
    alike : (s : Bool) → unlike s s ≡ false
    alike true = refl
    alike false = refl

pub ones-whole : (x y : Float) → Valued x 1 → Valued y 1 → x ⊗ y ≡ num 1
unfolding of_int
ones-whole x y e d = mul-values binary64 x y e.minus 1 1 d.minus 1 1 (zero-lt-suc 0) (zero-lt-suc 0) e.value d.value
    ∙ (λ i. round binary64 (unlike (plus e.minus e.signed i) (plus d.minus d.signed i)) 1 1)
  where
    plus : (s : Bool) → (s ≡ true → ◌≡◌ {A = ℕ} 1 0) → s ≡ false
    plus true h = absurd (omega (arith, h refl))
    plus false h = refl

-- ---- sums of whole floats, from a whole number, stay exact

-- a whole float, exactly, or -0.0 for 0
exact-add : (a b : ℕ) (y : Float) → a + b ≤ 2 ^ 53 → WholeFloat binary64 y b → num a ⊕ y ≡ num (a + b)
exact-add a b y h (inl p) = rw p (add-of_nat binary64 a b (omega arith) (omega arith))
exact-add a b y h (inr p) = rw (p.0, p.1, add-zero) (add-neg-zero binary64 (num a) (of_int-fits binary64 (pos a)))

exact-sum : {A : Type 0} (g : A → Float) (h : A → ℕ) (xs : List A) (a : ℕ) → ((x : A) → Member x xs → WholeFloat binary64 (g x) (h x))
    → a + sumℕ (map h xs) ≤ 2 ^ 53 → sum_from (num a) (map g xs) ≡ num (a + sumℕ (map h xs))
unfolding sumℕ sum_from
exact-sum g h [] a each most = ap num (sym (add-zero a))
exact-sum g h (x ∷ xs) a each most = ap (λ (s : Float). sum_from s (map g xs)) (exact-add a (h x) (g x) (omega arith) (each x (Member.head refl)))
    ∙ exact-sum g h xs (a + h x) (λ y m. each y (Member.tail m)) (omega arith) ∙ ap num (add_assoc a (h x) (sumℕ (map h xs)))

-- over pairs
exact_pairs : {A : Type 0} (g : A → A → Float) (h : A → A → ℕ) (xs : List A) (a : ℕ)
    → ((x y : A) → Member x xs → Member y xs → g x y ≡ num (h x y)) → a + sumℕ (pairs h xs) ≤ 2 ^ 53 → sum_from (num a) (pairs g xs) ≡ num (a + sumℕ (pairs h xs))
unfolding sumℕ sum_from pairs
exact_pairs g h [] a each most = ap num (sym (add-zero a))
exact_pairs g h (x ∷ xs) a each most =
    let n = sumℕ (map (h x) xs) in
    let both : sumℕ (map (h x) xs ++ pairs h xs) ≡ n + sumℕ (pairs h xs) = sumℕ-append (map (h x) xs) (pairs h xs) in
    sum-append (num a) (map (g x) xs) (pairs g xs)
    ∙ ap (λ (s : Float). sum_from s (pairs g xs)) (exact-sum (g x) (h x) xs a (λ y m. inl (each x y (Member.head refl) (Member.tail m))) (omega arith))
    ∙ exact_pairs g h xs (a + n) (λ y z m k. each y z (Member.tail m) (Member.tail k)) (omega arith)
    ∙ ap num (add_assoc a n (sumℕ (pairs h xs)) ∙ ap (λ (k : ℕ). a + k) (sym both))

zero-num : zero⁺ ≡ num 0
unfolding of_bits
zero-num = sym (of_nat_zero binary64)

-- -0.0 and a whole number
minus-zero-add : (n : ℕ) → zero⁻ ⊕ num n ≡ num n
unfolding of_bits neg
minus-zero-add n = neg-zero-add binary64 (num n) (of_int-fits binary64 (pos n))

-- a sum from -0.0: exact where it has a term, and -0.0 where it has none
exact-first : {A : Type 0} (g : A → Float) (h : A → ℕ) (x : A) (xs : List A) → g x ≡ num (h x) → ((y : A) → Member y xs → WholeFloat binary64 (g y) (h y))
    → sumℕ (map h (x ∷ xs)) ≤ 2 ^ 53 → sum_from zero⁻ (map g (x ∷ xs)) ≡ num (sumℕ (map h (x ∷ xs)))
unfolding sumℕ sum_from
exact-first g h x xs first each most =
    ap (λ (s : Float). sum_from s (map g xs)) (ap (λ (y : Float). zero⁻ ⊕ y) first ∙ minus-zero-add (h x)) ∙ exact-sum g h xs (h x) each most

whole_row : {A : Type 0} (g : A → Float) (h : A → ℕ) (xs : List A) → ((x : A) → Member x xs → g x ≡ num (h x)) → sumℕ (map h xs) ≤ 2 ^ 53
    → WholeFloat binary64 (sum_from zero⁻ (map g xs)) (sumℕ (map h xs))
whole_row g h [] each most = unfold sumℕ sum_from of_bits neg in inr (refl, refl)
whole_row g h (x ∷ xs) each most = inl (exact-first g h x xs (each x (Member.head refl)) (λ y m. inl (each y (Member.tail m))) most)

-- ---- sums over pairs of whole numbers up to a bound

pub pairs-few : (h : ℕ → ℕ → ℕ) (bound : ℕ) → ((a b : ℕ) → h a b ≤ bound) → (xs : List ℕ) → length xs ≤ 256 → sumℕ (pairs h xs) ≤ 256 * 256 * bound
pairs-few h bound low xs few =
    let n : length xs * length xs ≤ 256 * 256 = mul-le-mul few few in
    let k : length xs * length xs * bound ≤ 256 * 256 * bound = mul-le-mul n (le_refl bound) in omega (arith, pairs-le bound h xs low)

-- t are the terms of m samples
module _ (t : List Float) (m : ℕ) (h : ℕ → ℕ → ℕ) (bound : ℕ) (small : m ≤ 256) (fits : 256 * 256 * bound ≤ 2 ^ 53) (low : (a b : ℕ) → h a b ≤ bound)
    (each : (a b : ℕ) → a < m → b < m → entry m t a b ≡ num (h a b)) where
  pub pairs-whole : (xs : List ℕ) → length xs ≤ 256 → ((x : ℕ) → Member x xs → x < m) → pair_sum t m xs ≡ num (sumℕ (pairs h xs))
  unfolding pair_sum
  pairs-whole xs few below = ap (λ (s : Float). sum_from s (pairs (entry m t) xs)) zero-num
      ∙ exact_pairs (entry m t) h xs 0 (λ x y p q. each x y (below x p) (below y q)) (omega (arith, pairs-few h bound low xs few))
      ∙ ap num (zero-add (sumℕ (pairs h xs)))

  -- a row's whole sum
  row_whole : ℕ → ℕ
  row_whole a = sumℕ (map (h a) (range (a + 1) m))

  row-few : (a : ℕ) → row_whole a ≤ 2 ^ 53
  unfolding row_whole
  row-few a =
      let n : length (range (a + 1) m) ≤ 256 * 256 = omega (arith, length-range (a + 1) m) in
      let k : length (range (a + 1) m) * bound ≤ 256 * 256 * bound = mul-le-mul n (le_refl bound) in
      omega (arith, sumℕ-le bound (h a) (range (a + 1) m) (low a))

  later : (i x : ℕ) → i ≤ m → Member x (range i m) → x < m
  unfolding range
  later i x le mem = omega (arith, (member-up_from i (m - i) x mem).1)

  row-whole : (a : ℕ) → a < m → WholeFloat binary64 (row_sum t m a) (row_whole a)
  unfolding row_sum row_whole
  row-whole a l = whole_row (entry m t a) (h a) (range (a + 1) m) (λ x mem. each a x l (later (a + 1) x (omega arith) mem)) (row-few a)

  module _ (two : 2 ≤ m) where
    -- the first row has a term, so it is no -0.0
    first-row : row_sum t m 0 ≡ num (row_whole 0)
    unfolding row_sum row_whole
    first-row =
        let more : range (0 + 1) m ≡ 1 ∷ range 2 m = range-more 1 m (omega arith) in
        ap (λ (l : List ℕ). sum_from zero⁻ (map (entry m t 0) l)) more
        ∙ exact-first (entry m t 0) (h 0) 1 (range 2 m) (each 0 1 (omega arith) (omega arith)) (λ y k. inl (each 0 y (omega arith) (later 2 y two k)))
        (subst (λ (l : List ℕ). sumℕ (map (h 0) l) ≤ 2 ^ 53) more (row-few 0)) ∙ ap (λ (l : List ℕ). num (sumℕ (map (h 0) l))) (sym more)

    pub rows_whole : rows_sum t m ≡ num (sumℕ (pairs h (range 0 m)))
    unfolding rows_sum row_whole
    rows_whole =
        let more : range 0 m ≡ 0 ∷ range 1 m = range-more 0 m (omega arith) in
        let same : sumℕ (map row_whole (range 0 m)) ≡ sumℕ (pairs h (range 0 m)) = rows-pairs h m m 0 (zero-add m) in
        let few : sumℕ (map row_whole (range 0 m)) ≤ 2 ^ 53 = omega (arith, pairs-few h bound low (range 0 m) (omega (arith, length-range 0 m))) in
        ap (λ (l : List ℕ). sum_from zero⁻ (map (row_sum t m) l)) more
        ∙ exact-first (row_sum t m) row_whole 0 (range 1 m) first-row (λ a k. row-whole a (later 1 a (omega arith) k)) (subst (λ (l : List ℕ). sumℕ (map row_whole l) ≤ 2 ^ 53) more few)
        ∙ ap (λ (l : List ℕ). num (sumℕ (map row_whole l))) (sym more) ∙ ap num same
