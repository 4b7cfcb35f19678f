-- `permanova_sums::squares::fill_pair_terms` meets its contract. The closure's rule, at each two places.
use Rattle.lists.proofs.Base.{rules}
use Rattle.permanova_sums.specs.Squares.{pair_term_at, pair_terms}
use Rattle.permanova_sums.proofs.squares.fill_pair_terms.Goals as goal

pub returns : goal.returns
unfolding pair_terms pair_term_at
returns c = let a = c.args in c.fill_matrix.ensures (pair_term_at a.d.now a.n a.ks.now a.w.now) (λ i j x k l p. search rules)
