-- `exhaustive_answer::clearing::refuse` meets its contract. The fronts of the outputs and all work are cleared.
use Rattle.float.specs.Floats.{zero⁺}
use Rattle.lists.specs.Writes.{cleared}
use Rattle.exhaustive_hits.specs.Call.{slices_of}
use Rattle.exhaustive_answer.proofs.RefusedCalls.{front-cleared, turned-is}
use Rattle.exhaustive_answer.proofs.clearing.refuse.Goals as goal

pub returns : goal.returns
unfolding cleared
returns c =
    let done = c.clear_work.ensures in
    turned-is c.args.g c.args.r (slices_of c.args.group_labels.now c.args.counts.now c.args.means.now
    c.args.pair_terms.now c.args.weighted_squares.now c.args.coords.now c.args.eigenpairs.now
    c.args.vectors.now c.args.label_counts.now)
    (front-cleared 0 c.args.g c.args.group_labels.now c.requires.0 (c.fill.ensures.after (λ _ e. e)))
    (front-cleared 0 c.args.g c.args.counts.now c.requires.1 (c.fill-2.ensures.after (λ _ e. e)))
    (front-cleared zero⁺ c.args.g c.args.means.now c.requires.2 (c.fill-3.ensures.after (λ _ e. e))) done.0 done.1 done.2 done.3 done.4 done.5
