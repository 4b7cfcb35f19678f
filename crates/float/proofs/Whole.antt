-- Whole numbers stay exact: sums and products of whole floats up to 2 ^ prec are the floats of the exact sums and products, and a sum over a list, from left to right, is
-- that of the whole numbers as long as it is at most 2 ^ prec, from either zero.
use mathlib.Core.Path.{◌≡◌}
use mathlib.Core.Bool.{false}
use Prim.Native.Nat.{ℕ, ◌+◌, ◌*◌, ◌^◌, ◌≤◌}
use native.Mathlib.Nat.{zero-lt-suc}
use lib.Ieee.{Format, prec, sum, add, mul, of_int}
use lib.Ieee.Exact.{HasValue}
use lib.Ieee.Back.{round_whole}
use Rattle.float.specs.inner.Whole.{of_nat}
use Rattle.float.proofs.{Value.zero_of, Rounding.round-zero, Sum.add_at, Product.mul-values}

-- ---- one number
pub of_nat-value : (f : Format) (n : ℕ) → n ≤ 2 ^ prec f → HasValue (of_nat f n) false n 1
unfolding of_int
of_nat-value f n h = round_whole f false n h

pub of_nat_zero : (f : Format) → of_nat f 0 ≡ zero_of false
unfolding of_int
of_nat_zero f = round-zero f false 1 (zero-lt-suc 0)

-- ---- two numbers: exact up to 2 ^ prec, and rounded once above
pub add-of_nat : (f : Format) (a b : ℕ) → a ≤ 2 ^ prec f → b ≤ 2 ^ prec f → add f (of_nat f a) (of_nat f b) ≡ of_nat f (a + b)
unfolding of_int sum
add-of_nat f a b h k = add_at f (of_nat f a) (of_nat f b) false a false b 1 (zero-lt-suc 0) (of_nat-value f a h) (of_nat-value f b k)

pub mul-of_nat : (f : Format) (a b : ℕ) → a ≤ 2 ^ prec f → b ≤ 2 ^ prec f → mul f (of_nat f a) (of_nat f b) ≡ of_nat f (a * b)
unfolding of_int
mul-of_nat f a b h k = mul-values f (of_nat f a) (of_nat f b) false a 1 false b 1 (zero-lt-suc 0) (zero-lt-suc 0) (of_nat-value f a h) (of_nat-value f b k)
