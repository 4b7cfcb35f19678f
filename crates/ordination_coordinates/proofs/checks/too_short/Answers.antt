-- `ordination_coordinates::checks::too_short` meets its contract. n * n fits where n is below 2 ^ 32, and is above every length from there on.
use Rattle.lists.proofs.Base.{◌*◌, ◌≤◌, mul-le-mul, arith, lt-ltb}
use Rattle.outcome.proofs.Lengths.{short-at}
use Rattle.ordination_coordinates.specs.Lengths.{too_short}
use Rattle.ordination_coordinates.proofs.Lines.{Fitting, fitting}
use Rattle.ordination_coordinates.proofs.checks.too_short.Goals as goal
use Rattle.ordination_coordinates.proofs.checks.too_short.Goals.{Else-n-gt4294967295}

fits : (c : Else-n-gt4294967295) → Fitting c.args.n c.args.k
fits c = fitting c.args.n c.args.k c.requires c.if-n-gt4294967295.false

pub returns-then-n-gt4294967295 : goal.returns-then-n-gt4294967295
unfolding too_short
returns-then-n-gt4294967295 c =
    let a = c.args in
    let far : 0x1_0000_0000_0000_0000 ≤ a.n * a.n = mul-le-mul {n₁ = 0x1_0000_0000} {m₁ = 0x1_0000_0000} c.if-n-gt4294967295.true c.if-n-gt4294967295.true in
    short-at _ _ 1 (omega arith) (omega arith) (lt-ltb a.l.b (a.n * a.n) (omega arith))

pub returns : goal.returns
unfolding too_short
returns c = c.is_short.ensures
