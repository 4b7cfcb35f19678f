-- `exhaustive::checks::too_short` meets its contract. Where n times n does not fit, it is above every length.
use Rattle.lists.proofs.Base.{◌≡◌, ◌+◌, ◌*◌, ◌≤◌, ◌<◌, ℕ, mul-le-mul, arith, lt-ltb, get_or}
use native.Mathlib.Decide.{dec_le}
use Rattle.outcome.proofs.Lengths.{short-at}
use Rattle.exhaustive.proofs.checks.too_short.Goals as goal

sum-fits : (n : ℕ) → n * n < 18446744073709551616 → n + n * n < 18446744073709551616
sum-fits n h =
    elim (dec_le 4294967296 n) [
      | yes m ↦ absurd (omega (arith, mul-le-mul m m))
      | no m ↦ let few : n ≤ 4294967295 = omega arith in omega (arith, mul-le-mul few few)
    ]

pub returns-in_default : goal.returns-in_default
returns-in_default c =
    let n = c.args.n in
    short-at c.args.lent.now _ 3 (omega arith) (omega arith) (lt-ltb (get_or c.args.lent.now 3 0) (n * n) (omega (arith, c.in_default.ensures, c.fits-lent 3)))

pub overflow_add-n : goal.overflow_add-n
overflow_add-n c =
    let e : c.in-Some.q ≡ c.args.n * c.args.n = c.in-Some.ensures.1 in
    record { fits = omega (arith, sum-fits c.args.n c.in-Some.ensures.0) }

pub returns : goal.returns
returns c = let e : c.in-Some.q ≡ c.args.n * c.args.n = c.in-Some.ensures.1 in rw e at c.is_short.ensures
