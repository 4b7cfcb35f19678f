-- Sums of whole numbers over lists and pairs.
use Rattle.lists.proofs.Base.{◌≡◌, sym, ap, ◌∙◌, List, [], ◌∷◌, ◌++◌, map, ℕ, zero, suc, ◌+◌, ◌*◌, ◌≤◌, arith, length}
use Rattle.lists.specs.{Ranges.range, Filters.pairs, Numbers.sumℕ}
use Rattle.lists.proofs.Ranges.{range-more, range_none}

pub sumℕ-append : (xs ys : List ℕ) → sumℕ (xs ++ ys) ≡ sumℕ xs + sumℕ ys
unfolding sumℕ
sumℕ-append [] ys = omega arith
sumℕ-append (x ∷ xs) ys = omega (arith, sumℕ-append xs ys)

-- a sum of numbers that are at most b, and of their pairs
pub sumℕ-le : {A : Type 0} (b : ℕ) (h : A → ℕ) (xs : List A) → ((x : A) → h x ≤ b) → sumℕ (map h xs) ≤ length xs * b
unfolding sumℕ
sumℕ-le b h [] most = omega arith
sumℕ-le b h (x ∷ xs) most = omega (arith, sumℕ-le b h xs most, most x)

pub pairs-le : {A : Type 0} (b : ℕ) (h : A → A → ℕ) (xs : List A) → ((x y : A) → h x y ≤ b) → sumℕ (pairs h xs) ≤ length xs * length xs * b
unfolding sumℕ pairs
pairs-le b h [] most = omega arith
pairs-le b h (x ∷ xs) most = omega (arith, sumℕ-append (map (h x) xs) (pairs h xs), sumℕ-le b (h x) xs (most x), pairs-le b h xs most)

-- each row's own sum, then their sum: the sum over pairs
pub rows-pairs : (h : ℕ → ℕ → ℕ) (m k i : ℕ) → i + k ≡ m → sumℕ (map (λ a. sumℕ (map (h a) (range (a + 1) m))) (range i m)) ≡ sumℕ (pairs h (range i m))
unfolding sumℕ pairs
rows-pairs h m zero i e = rw (range_none i m (omega arith))
rows-pairs h m (suc k) i e =
    let rest = rows-pairs h m k (i + 1) (omega arith) in
    rw (range-more i m (omega arith)) (ap (λ (n : ℕ). sumℕ (map (h i) (range (i + 1) m)) + n) rest ∙ sym (sumℕ-append (map (h i) (range (i + 1) m)) (pairs h (range (i + 1) m))))
