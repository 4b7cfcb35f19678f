-- `permanova::checks::too_short` meets its contract. Where n times n does not fit, it is above every length.
use Rattle.lists.proofs.Base.{◌≡◌, ◌*◌, arith, lt-ltb}
use Rattle.outcome.proofs.Lengths.{short-at}
use Rattle.permanova.specs.Call.{too_short}
use Rattle.permanova.proofs.checks.too_short.Goals as goal

pub returns-in_default : goal.returns-in_default
unfolding too_short
returns-in_default c =
    let n = c.args.n in
    short-at _ _ 3 (omega arith) (omega arith) (lt-ltb c.args.pair_terms (n * n) (omega (arith, c.in_default.ensures)))

pub returns : goal.returns
unfolding too_short
returns c =
    let n = c.args.n in
    let square : c.in-Some.square ≡ n * n = c.in-Some.ensures.1 in
    rw square at c.is_short.ensures
