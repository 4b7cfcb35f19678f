-- `exhaustive_answer::clearing::clear_work` meets its contract. Each slice is filled with zeros.
use Rattle.lists.specs.Writes.{cleared}
use Rattle.exhaustive_answer.proofs.clearing.clear_work.Goals as goal

pub returns : goal.returns
unfolding cleared
returns c = (
  c.fill.ensures.after (λ _ e. e),
  c.fill-2.ensures.after (λ _ e. e),
  c.fill-3.ensures.after (λ _ e. e),
  c.fill-4.ensures.after (λ _ e. e),
  c.fill-5.ensures.after (λ _ e. e),
  c.fill-6.ensures.after (λ _ e. e),
)
