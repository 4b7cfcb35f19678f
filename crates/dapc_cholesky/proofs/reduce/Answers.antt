-- `dapc_cholesky::reduce` meets its contract. After k turns the first k products are taken off.
use Rattle.lists.proofs.Base.{◌≡◌, ap₂, ◌∙◌, arith, Float}
use Rattle.float.specs.Floats.{◌⊖◌, ◌⊗◌}
use Rattle.lists.proofs.Loops.{in_turn-none, in_turn-next}
use Rattle.dapc_cholesky.specs.Cholesky.{reduced}
use Rattle.dapc_cholesky.proofs.reduce.Goals as goal

pub cell-s-requires : goal.cell-s-requires
cell-s-requires c = (c.requires.0, c.requires.2, c.requires.3)

pub loop-k-init : goal.loop-k-init
loop-k-init c = (omega arith, c.cell-s.ensures ∙ in_turn-none _ _)

pub cell-requires : goal.cell-requires
cell-requires c = (c.requires.1, c.requires.2, omega arith)

pub cell-requires-in-loop-k : goal.cell-requires-in-loop-k
cell-requires-in-loop-k c = let pre = c.requires in (pre.1, pre.3, omega arith)

pub loop-k-preserved : goal.loop-k-preserved
loop-k-preserved c = (
  omega arith,
  in_turn-next _ _ _ c.loop-k.invariant.1
      (ap₂ (λ (x y : Float). c.loop-k.s ⊖ x ⊗ y) c.cell.ensures c.cell-in-loop-k.ensures),
)

pub returns : goal.returns
unfolding reduced
returns c = let e : c.loop-k.k ≡ c.args.j = omega arith in rw e at c.loop-k.invariant.1
