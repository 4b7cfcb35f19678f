-- `ordination_sets::too_short` meets its contract: from 2 ^ 32 on n times n is above every length.
use Rattle.lists.proofs.Base.{◌∙◌, ◌*◌, ◌≤◌, mul-le-mul, arith, lt-ltb, le-leb}
use Rattle.outcome.proofs.Lengths.{short-at}
use Rattle.ordination_sets.specs.Lines.{too_short}
use Rattle.ordination_sets.proofs.too_short.Goals as goal

pub returns-then-n-ge4294967296 : goal.returns-then-n-ge4294967296
unfolding too_short
returns-then-n-ge4294967296 c =
    let n = c.args.n in
    let past : 4294967296 * 4294967296 ≤ n * n = mul-le-mul c.if-n-ge4294967296.true c.if-n-ge4294967296.true in
    le-leb 4294967296 n c.if-n-ge4294967296.true ∙ short-at _ _ 0 (omega arith) (omega arith) (lt-ltb c.args.out (n * n) (omega arith))

pub overflow_mul-n : goal.overflow_mul-n
overflow_mul-n c =
    let n = c.args.n in
    let below : n ≤ 4294967295 = omega arith in
    let most : n * n ≤ 4294967295 * 4294967295 = mul-le-mul below below in omega arith

pub returns-else-n-ge4294967296 : goal.returns-else-n-ge4294967296
unfolding too_short
returns-else-n-ge4294967296 c = c.is_short.ensures
