-- The operation is called, and its answer laid out.
use Rattle.lotjudge_c.proofs.Exports.{hash-pca-returns}
use Rattle.lotjudge_c.proofs.lotjudge_hash_pca.Goals as goal

pub returns : goal.returns
returns c = hash-pca-returns c.hash_pca-r.result c.args.selected.now c.hash_pca-r.ensures c.lay.ensures
