-- `c_layouts::lengths::top_eigs_lengths` meets its contract. By n times n and how many components are used, of both within their limits.
use Rattle.lists.proofs.Base.{arith, min-le_right}
use Rattle.outcome.proofs.Table.{passed-on}
use Rattle.c_layouts.proofs.AskedLengths.{beyond, within, many, other, top-asked}
use Rattle.c_layouts.proofs.lengths.top_eigs_lengths.Goals as goal

pub returns-in_err-q : goal.returns-in_err-q
returns-in_err-q c = beyond _ (passed-on _ c.from_residual.ensures.1) c.in_err-q.ensures.1 (many c.args.n _ c.in_err-q.ensures.0)

pub returns-in_err-k : goal.returns-in_err-k
returns-in_err-k c = beyond _ (passed-on _ c.from_residual-in_err-k.ensures.1) c.in_err-k.ensures.1 (other c.args.n _ c.in_ok-q.ensures.0 c.in_err-k.ensures.0)

pub pairs-requires : goal.pairs-requires
pairs-requires c = (c.in_ok-q.ensures.0, omega (arith, c.in_ok-k.ensures.1, min-le_right c.args.components c.args.n))

pub returns : goal.returns
returns c = within _ (other c.args.n _ c.in_ok-q.ensures.0 c.in_ok-k.ensures.0) (top-asked c.args.n c.pairs.ensures c.in_ok-k.ensures.1 c.in_ok-q.ensures.1)
