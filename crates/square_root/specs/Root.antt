-- Section 1: the square root. `root` is what `square_root::sqrt` returns, and antt computes it; `Nearest` says what IEEE 754 asks of it. Definitions only.
use Rattle.std.specs.Prelude.{ℕ, zero, suc, ◌+◌, ◌*◌, ◌/◌, ◌^◌, true, false, cond, nat_le, Float}
use Rattle.std.specs.Float.{nan, inf, fin}
use Rattle.std.specs.Float.Ieee.{size, odd}
use Rattle.float.specs.Value.{units}

-- the largest r with r * r ≤ n, for an n below 4 ^ d: one binary digit of r for each of d
unfoldable pub isqrt : ℕ → ℕ → ℕ
isqrt zero n = 0
isqrt (suc d) n = let r = 2 * isqrt d (n / 4) in cond (nat_le ((r + 1) * (r + 1)) n) (r + 1) r

-- The root of n units, for an n above 0. It is q * 2 ^ k units with a q of 53 digits. n * 2 ^ 1074 / 4 ^ k is the square of the exact q, and here stands
-- 4 times that, so the whole root has one digit more than q. That digit rounds q: up from a half on, and exactly a half it never is.
unfoldable pub root_of : ℕ → Float
root_of n =
    let k = 484 + (size n + 1) / 2 in
    odd 54 false ((isqrt 54 (n * 2 ^ 1076 / 2 ^ (2 * k)) + 1) / 2) k 1074

-- Zero keeps its sign, a number below zero gives NaN, and +infinity and NaN give themselves.
unfoldable pub root : Float → Float
root nan = nan
root (inf true) = nan
root (inf false) = inf false
root (fin s zero e) = fin s zero e
root (fin true (suc m) e) = nan
root (fin false (suc m) e) = root_of (units (fin false (suc m) e))
