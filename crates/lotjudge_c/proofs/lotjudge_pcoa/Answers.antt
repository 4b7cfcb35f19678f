-- The operation is called, and its answer laid out.
use Rattle.lotjudge_c.proofs.Exports.{pcoa-returns}
use Rattle.lotjudge_c.proofs.lotjudge_pcoa.Goals as goal

pub returns : goal.returns
returns c = pcoa-returns c.pcoa-r.result c.pcoa-r.ensures c.code_of.ensures
