-- The lengths are laid out as they are told.
use Rattle.c_layouts.proofs.AskedLengths.{told-laid}
use Rattle.lotjudge_c.proofs.lotjudge_dapc_lengths.Goals as goal

pub returns : goal.returns
returns c = told-laid _ _ c.args.lengths.now c.dapc_lengths.ensures c.lay.ensures
