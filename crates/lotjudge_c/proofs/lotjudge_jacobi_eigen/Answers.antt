-- The operation is called, and its answer laid out.
use Rattle.lotjudge_c.proofs.Exports.{jacobi-returns}
use Rattle.lotjudge_c.proofs.lotjudge_jacobi_eigen.Goals as goal

pub returns : goal.returns
returns c = jacobi-returns c.jacobi_eigen-r.result c.args.sweeps.now c.jacobi_eigen-r.ensures c.lay.ensures
