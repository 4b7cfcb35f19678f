-- The lengths are laid out as they are told.
use Rattle.c_layouts.proofs.AskedLengths.{told-laid}
use Rattle.lotjudge_c.proofs.lotjudge_top_eigs_lengths.Goals as goal

pub returns : goal.returns
returns c = told-laid _ _ c.args.lengths.now c.top_eigs_lengths.ensures c.lay.ensures
