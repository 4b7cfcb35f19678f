-- The operation is called, and its answer laid out.
use Rattle.lotjudge_c.proofs.Exports.{gram-returns}
use Rattle.lotjudge_c.proofs.lotjudge_gram_matrix.Goals as goal

pub returns : goal.returns
returns c = gram-returns c.gram_matrix-r.result c.args.selected.now c.gram_matrix-r.ensures c.lay.ensures
