-- `ordination_gram::gram_matrix` meets its contract: the matrix, where its own lengths are asked.
use Rattle.lists.proofs.Base.{length, sym, ◌∙◌}
use Rattle.ordination_sets.proofs.AcceptedSets.{long-enough}
use Rattle.ordination_gram.proofs.GramCalls.{call-is}
use Rattle.ordination_gram.proofs.gram_matrix.Goals as goal

pub matrix-requires : goal.matrix-requires
matrix-requires c = let a = c.args in λ e. long-enough a.n (length a.out.now) (length a.words.now) (sym c.too_short-short.ensures ∙ e)

pub returns : goal.returns
returns c =
    let a = c.args in
    call-is a.n a.hashes.now a.offsets.now a.out.now a.words.now c.too_short-short.ensures c.matrix.ensures
