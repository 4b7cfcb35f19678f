-- `permanova_sums::squares::fill_weighted_squares` meets its contract. The closure's rule, at each two places.
use Rattle.lists.proofs.Base.{rules}
use Rattle.permanova_sums.specs.Squares.{weighted_square_at, weighted_squares}
use Rattle.permanova_sums.proofs.squares.fill_weighted_squares.Goals as goal

pub returns : goal.returns
unfolding weighted_squares weighted_square_at
returns c = let a = c.args in c.fill_matrix.ensures (weighted_square_at a.d.now a.n a.ks.now a.w.now) (λ i j x k l p. search rules)
