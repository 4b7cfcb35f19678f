-- `dapc_cholesky::factor_pivot` meets its contract. One store, of the root.
use Rattle.lists.proofs.Base.{refl, ap, ◌∙◌, ◌+◌, ◌*◌, eq-eqb, set}
use Rattle.square_root.specs.Root.{root}
use Rattle.dapc_cholesky.specs.Cholesky.{chol_entry}
use Rattle.dapc_cholesky.proofs.factor_pivot.Goals as goal

pub reduce-s-requires : goal.reduce-s-requires
reduce-s-requires c = let pre = c.requires in (pre.0, pre.1, pre.2, pre.2)

pub returns : goal.returns
unfolding chol_entry
returns c =
    let a = c.args in
    (rw (eq-eqb a.i a.i refl) (ap (set a.l.now (a.i * a.p + a.i)) (c.sqrt-r.ensures ∙ ap root c.reduce-s.ensures)), c.reduce-s.ensures)
