-- `lot_checks::is_square` meets its contract. From 2 ^ 32 on n * n is past every `usize`, and below it n * n is one.
use Rattle.lists.proofs.Base.{sym, ◌*◌, ◌≤◌, mul-le-mul, arith, ne_eqb}
use Rattle.lot_checks.proofs.is_square.Goals as goal

pub returns-then-n-ge4294967296 : goal.returns-then-n-ge4294967296
returns-then-n-ge4294967296 c =
    let n = c.args.n in
    let past : 4294967296 * 4294967296 ≤ n * n = mul-le-mul c.if-n-ge4294967296.true c.if-n-ge4294967296.true in
    sym (ne_eqb c.args.len (n * n) (λ e. omega arith))

pub overflow_mul-result : goal.overflow_mul-result
overflow_mul-result c =
    let n = c.args.n in
    let below : n ≤ 4294967295 = omega arith in
    let within : n * n ≤ 4294967295 * 4294967295 = mul-le-mul below below in omega arith
