-- `dapc_scores::fill_scores` meets its contract. After i turns the scores of the first i samples stand there.
use Rattle.lists.proofs.Base.{◌≡◌, length}
use Rattle.lists.proofs.{Writes.Filling}
use Rattle.dapc_scores.proofs.Scoring.{scored}
use Rattle.dapc_scores.proofs.fill_scores.Given as goal

abbrev pub invariant-loop-i : goal.invariant-loop-i
invariant-loop-i l =
    let s = l.samples in
    let n = length s.groups.now in
    Filling n s.sizes.axes (scored n s.sizes.columns s.sizes.lead s.sizes.axes s.x.now l.mean l.vs) l.initial.scores l.scores l.i × (length l.d ≡ s.sizes.lead)
