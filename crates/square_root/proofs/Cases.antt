-- Two of document 01's cases, computed.
use Rattle.std.proofs.Common.{◌≡◌, false, negsuc, refl}
use lib.Ieee.{fin, size, odd, of_bits, to_bits}
use Rattle.float.specs.Floats.{bits, 2·0}
use Rattle.square_root.specs.Root.{isqrt, root_of, root}

-- (a) the root of 2 ^ -1074, the smallest f64 above zero, is 2 ^ -537
pub root-of-smallest : root (fin false 1 (negsuc 1073)) ≡ fin false 1 (negsuc 536)
unfolding root root_of isqrt size odd
root-of-smallest = refl

-- (b) the root of 2, by its bits
pub root-of-two : bits (root 2·0) ≡ 0x3ff6_a09e_667f_3bcd
unfolding of_bits root root_of isqrt size odd to_bits
root-of-two = refl
