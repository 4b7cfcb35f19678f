-- The operation is called, and its answer laid out.
use Rattle.lotjudge_c.proofs.Exports.{dapc-returns}
use Rattle.lotjudge_c.proofs.lotjudge_dapc.Goals as goal

pub returns : goal.returns
returns c = dapc-returns c.dapc-r.result c.args.numbers.now c.dapc-r.ensures c.lay_scores.ensures
