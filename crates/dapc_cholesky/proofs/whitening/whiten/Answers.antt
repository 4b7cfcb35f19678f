-- `dapc_cholesky::whitening::whiten` meets its contract. Solved twice, and evened.
use Rattle.lists.proofs.Base.{ap, ◌∙◌, ◌*◌, length, length-replicate}
use Rattle.float.specs.Floats.{zero⁺}
use Rattle.dapc_cholesky.specs.{Triangular.solve_columns, Whitened.whitened}
use Rattle.eigen_matrix.specs.Symmetric.{symmetrised}
use Rattle.dapc_cholesky.proofs.whitening.whiten.Goals as goal

pub solve_columns-requires : goal.solve_columns-requires
solve_columns-requires c = let pre = c.requires in (pre.1, pre.2, pre.3)

pub solve_columns-requires-2 : goal.solve_columns-requires-2
solve_columns-requires-2 c = (c.requires.0, c.requires.2, c.solve_columns.auto.dst ∙ ap length c.requires.1 ∙ length-replicate (c.args.p * c.args.p) zero⁺)

pub symmetrise-requires : goal.symmetrise-requires
symmetrise-requires c = c.solve_columns-2.auto.dst ∙ ap length c.requires.0 ∙ length-replicate (c.args.p * c.args.p) zero⁺

pub returns : goal.returns
unfolding whitened
returns c =
    let a = c.args in
    c.symmetrise.ensures
    ∙ ap (symmetrised a.p) (c.solve_columns-2.ensures ∙ ap (solve_columns a.p a.l.now) c.solve_columns.ensures)
