-- `judge_frames::clear_all` meets its contract. Each slice is filled by its length.
use Rattle.judge_frames.proofs.ReadStages.{cleared-all}
use Rattle.judge_frames.proofs.clear_all.Goals as goal

pub returns : goal.returns
returns c = cleared-all _ _ _ c.requires (c.fill.ensures.after (λ _ e. e)) (c.fill-2.ensures.after (λ _ e. e)) (c.fill-3.ensures.after (λ _ e. e))
