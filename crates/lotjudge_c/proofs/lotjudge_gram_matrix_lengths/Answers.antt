-- The lengths are laid out as they are told.
use Rattle.c_layouts.proofs.AskedLengths.{told-laid}
use Rattle.lotjudge_c.proofs.lotjudge_gram_matrix_lengths.Goals as goal

pub returns : goal.returns
returns c = told-laid _ _ c.args.lengths.now c.gram_lengths.ensures c.lay.ensures
