-- `eigen_ritz::ritz_vectors::combine_at` meets its contract. With the products from column c on, s is the whole sum.
use Rattle.lists.proofs.Base.{refl, sym, arith}
use Rattle.float.specs.Floats.{zero⁻}
use Rattle.lists.specs.{Rows.entry}
use Rattle.lists.proofs.{Sums.sum-turn, Sums.sum-end, Sums.sum-table}
use Rattle.eigen_ritz.specs.RitzVectors.{ritz_vector_at}
use Rattle.eigen_ritz.proofs.ritz_vectors.combine_at.Goals as goal

pub loop-c-init : goal.loop-c-init
unfolding ritz_vector_at
loop-c-init c = (omega arith, sym (sum-table zero⁻ _ _))

pub loop-c-preserved : goal.loop-c-preserved
unfolding entry
loop-c-preserved c = (omega arith, sum-turn _ _ _ _ c.loop-c-test.true refl refl c.loop-c.invariant.1)

pub returns : goal.returns
unfolding entry
returns c = sum-end _ _ _ _ c.loop-c-test.false c.loop-c.invariant.1
