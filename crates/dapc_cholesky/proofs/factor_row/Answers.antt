-- `dapc_cholesky::factor_row` meets its contract. The pivot is the same before and after its root is put down.
use Rattle.lists.proofs.Base.{sym, ap, ◌∙◌, List, Float}
use Rattle.lists.proofs.Loops.{in_turn-next}
use Rattle.dapc_cholesky.specs.Cholesky.{reduced, chol_row}
use Rattle.dapc_cholesky.proofs.Pivots.{pivot-kept}
use Rattle.dapc_cholesky.proofs.factor_row.Goals as goal

pub factor_below-requires : goal.factor_below-requires
factor_below-requires c = c.requires

pub factor_pivot-requires : goal.factor_pivot-requires
factor_pivot-requires c = (c.requires.0, c.factor_below.auto.l ∙ c.requires.1, c.requires.2)

pub returns : goal.returns
unfolding chol_row
returns c =
    let pivot = c.factor_pivot.ensures in
    let a = c.args in (
      in_turn-next _ _ _ c.factor_below.ensures pivot.0,
      pivot.1 ∙ pivot-kept a.p a.a.now a.i c.factor_below.new.l ∙ ap (λ (t : List Float). reduced a.p a.a.now t a.i a.i) (sym pivot.0),
    )
