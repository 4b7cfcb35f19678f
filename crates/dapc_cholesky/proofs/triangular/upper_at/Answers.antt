-- `dapc_cholesky::triangular::upper_at` meets its contract. The products from i + 1 up to k are taken off.
use Rattle.lists.proofs.Base.{◌≡◌, ap, ap₂, arith, get_or, Float, nan}
use Rattle.float.specs.Floats.{◌⊖◌, ◌⊗◌, ◌⊘◌}
use Rattle.lists.proofs.Loops.{from_to-none, from_to-next}
use Rattle.dapc_cholesky.specs.Triangular.{upper_at}
use Rattle.dapc_cholesky.proofs.triangular.upper_at.Goals as goal

pub loop-k-init : goal.loop-k-init
loop-k-init c = (omega arith, omega arith, from_to-none _ _ _)

pub cell-requires : goal.cell-requires
cell-requires c = (c.requires.0, omega arith, omega arith)

pub loop-k-preserved : goal.loop-k-preserved
loop-k-preserved c =
    let turn = c.loop-k in
    let args = c.args in
    (omega arith, omega arith, from_to-next _ _ _ _ turn.invariant.0 turn.invariant.2 (ap (λ (y : Float). turn.s ⊖ y ⊗ get_or args.x.now turn.k nan) c.cell.ensures))

pub cell-requires-2 : goal.cell-requires-2
cell-requires-2 c = (c.requires.0, c.requires.3, c.requires.3)

pub returns : goal.returns
unfolding upper_at
returns c =
    let e : c.loop-k.k ≡ c.args.p = omega arith in
    ap₂ (λ (s d : Float). s ⊘ d) (rw e at c.loop-k.invariant.2) c.cell-2.ensures
