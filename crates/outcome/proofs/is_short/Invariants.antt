-- `outcome::is_short` meets its contract. What is left of both decides.
use Rattle.lists.proofs.Base.{◌≡◌}
use Rattle.outcome.specs.Refusals.{short}
use Rattle.outcome.proofs.is_short.Given as goal

abbrev pub invariant-loop-has : goal.invariant-loop-has
invariant-loop-has l = short l.has-iterator.a.rest.now l.has-iterator.b.rest.now ≡ short l.lent l.asked
