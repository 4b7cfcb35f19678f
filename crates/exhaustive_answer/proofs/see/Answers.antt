-- `exhaustive_answer::see` meets its contract. The statistics of both F, and the assignment.
use Rattle.exhaustive_answer.specs.inner.Counted.{seen_by}
use Rattle.exhaustive_answer.proofs.see.Goals as goal

pub returns : goal.returns
unfolding seen_by
returns c = λ i. record { location = c.statistic_of.ensures i; dispersion = c.statistic_of-2.ensures i; assignment = c.assignment_of.ensures i }
