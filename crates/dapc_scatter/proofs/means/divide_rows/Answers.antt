-- `dapc_scatter::means::divide_rows` meets its contract. After j turns the first j rows are divided.
use Rattle.lists.proofs.Base.{ℕ, ◌^◌, ap, arith, le→leb}
use lib.Ieee.{in_float}
use Rattle.float.specs.Floats.{◌⊘◌, num}
use Rattle.lists.specs.Rows.{entry}
use Rattle.dapc_scatter.proofs.InPlace.{reworked-none, reworked-row, reworked-all}
use Rattle.dapc_scatter.proofs.means.divide_rows.Goals as goal

pub loop-j-init : goal.loop-j-init
loop-j-init c = reworked-none _ _ _ _ c.requires

pub int_to_float-n : goal.int_to_float-n
unfolding in_float
int_to_float-n c =
    le→leb c.entry-n.result (2 ^ 53)
    (omega (arith, c.entry-n.ensures, c.type_inv.counts c.loop-j.j))

pub divide-requires : goal.divide-requires
divide-requires c = tt

pub loop-j-preserved : goal.loop-j-preserved
loop-j-preserved c =
    let turn = c.loop-j in
    reworked-row _ _ _ _ turn.mu _ (λ _ v. v ⊘ num c.entry-n.result) c.requires turn.invariant c.loop-j-test.true c.divide.ensures
    (λ i _. ap (λ (k : ℕ). entry c.args.p c.args.mu.now turn.j i ⊘ num k) c.entry-n.ensures)

pub returns : goal.returns
returns c = reworked-all _ _ _ _ c.requires c.loop-j.invariant c.loop-j-test.false
