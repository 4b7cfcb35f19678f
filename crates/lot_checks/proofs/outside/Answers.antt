-- `lot_checks::outside` meets its contract. Each answer is what the two tests give.

use Rattle.lot_checks.proofs.outside.Goals as goal

pub returns-then-lo-x : goal.returns-then-lo-x
returns-then-lo-x c = rw c.if-lo-x.true

pub returns : goal.returns
returns c = rw c.if-lo-x.false
