-- `float::max` meets its contract: each arm returns the larger of the values that come to it.
use Rattle.float.proofs.{Tests.passes, Tests.fails, Signs.max-nan, Signs.max-less, Signs.max-zeros, Signs.max-rest}
use Rattle.float.proofs.max.Goals as goal

pub returns-then-a : goal.returns-then-a
returns-then-a c = max-nan _ _ (passes c.if-a.true)

pub returns-then-a-b : goal.returns-then-a-b
returns-then-a-b c = max-less _ _ c.if-a-b.true

pub returns-then-b : goal.returns-then-b
returns-then-b c = max-zeros _ _ (passes c.well_formed.0.1) (passes c.well_formed.1.0.1) (passes c.if-a-2.true) (passes c.if-b.true)

pub returns-else-b : goal.returns-else-b
returns-else-b c = max-rest _ _ c.if-a.false c.if-a-b.false (λ p q. fails c.if-b.false q)

pub returns-else-a-2 : goal.returns-else-a-2
returns-else-a-2 c = max-rest _ _ c.if-a.false c.if-a-b.false (λ p q. fails c.if-a-2.false p)
