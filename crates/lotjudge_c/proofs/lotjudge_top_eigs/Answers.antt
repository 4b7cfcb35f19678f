-- The operation is called, and its answer laid out.
use Rattle.lotjudge_c.proofs.Exports.{top-returns}
use Rattle.lotjudge_c.proofs.lotjudge_top_eigs.Goals as goal

pub returns : goal.returns
returns c = top-returns c.top_eigs-r.result c.top_eigs-r.ensures c.code_of.ensures
