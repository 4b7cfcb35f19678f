-- `dapc_cholesky::triangular::lower_at` meets its contract. After k turns the first k products are taken off.
use Rattle.lists.proofs.Base.{◌≡◌, sym, ap, ap₂, ◌∙◌, arith, get_or, Float, nan}
use Rattle.float.specs.Floats.{◌⊖◌, ◌⊗◌, ◌⊘◌}
use Rattle.lists.specs.{Rows.entry}
use Rattle.lists.proofs.{Ranges.get_or-table, Loops.in_turn-none, Loops.in_turn-next}
use Rattle.dapc_cholesky.specs.Triangular.{lower_at}
use Rattle.dapc_cholesky.proofs.triangular.lower_at.Goals as goal

pub cell-s-requires : goal.cell-s-requires
cell-s-requires c = (c.requires.1, c.requires.4, c.requires.3)

pub loop-k-init : goal.loop-k-init
loop-k-init c =
    let a = c.args in
    (omega arith, c.cell-s.ensures ∙ sym (get_or-table (λ n. entry a.p a.b.now n a.c) a.p a.i nan c.requires.4) ∙ in_turn-none _ _)

pub cell-requires : goal.cell-requires
cell-requires c = let pre = c.requires in (pre.0, pre.4, omega arith)

pub loop-k-preserved : goal.loop-k-preserved
loop-k-preserved c =
    let turn = c.loop-k in
    let x = c.args.x.now in
    (omega arith, in_turn-next _ _ _ turn.invariant.1 (ap (λ (y : Float). turn.s ⊖ y ⊗ get_or x turn.k nan) c.cell.ensures))

pub cell-requires-2 : goal.cell-requires-2
cell-requires-2 c = (c.requires.0, c.requires.4, c.requires.4)

pub returns : goal.returns
unfolding lower_at
returns c =
    let e : c.loop-k.k ≡ c.args.i = omega arith in
    ap₂ (λ (s d : Float). s ⊘ d) (rw e at c.loop-k.invariant.1) c.cell-2.ensures
