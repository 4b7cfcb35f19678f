-- `shuffle::shuffle_stratum` meets its contract. The invariant: the swaps from the last position down to i are made.
use Rattle.lists.proofs.Base.{sym, subst, ℕ, arith}
use Rattle.lists.specs.inner.Numbers.{Below}
use Rattle.shuffle.specs.inner.Shuffle.{shuffling}
use Rattle.shuffle.proofs.Draws.{stratum-shuffled-none, stratum-shuffled-next, stratum-shuffled-all}
use Rattle.shuffle.proofs.shuffle_stratum.Goals as goal

pub loop-i-init : goal.loop-i-init
loop-i-init c = stratum-shuffled-none c.args.stratum.now (shuffling c.args.state.now c.args.lab.now)

pub swap_drawn-requires : goal.swap_drawn-requires
swap_drawn-requires c = (omega (arith, c.loop-i.invariant.most), subst (λ (n : ℕ). Below n c.args.stratum.now) (sym c.loop-i.invariant.long) c.requires)

pub loop-i-preserved : goal.loop-i-preserved
loop-i-preserved c =
    stratum-shuffled-next c.args.stratum.now (shuffling c.args.state.now c.args.lab.now) c.loop-i.invariant (omega arith) c.swap_drawn.auto.lab c.swap_drawn.ensures

pub returns : goal.returns
returns c = stratum-shuffled-all c.args.stratum.now (shuffling c.args.state.now c.args.lab.now) c.loop-i.invariant (omega arith)
