-- `eigen_block::power::power_bound` meets its contract. After k steps, what is left to do from here gives what was to be done at the start.
use Rattle.lists.proofs.Base.{ap, ◌∙◌, arith}
use Rattle.eigen_vectors.specs.Vectors.{divided}
use Rattle.eigen_block.proofs.PowerFuel.{power-none, power-end, power-on}
use Rattle.eigen_block.proofs.power.power_bound.Goals as goal

pub returns-then-rho : goal.returns-then-rho
returns-then-rho c =
    power-end _ _ c.loop-k._k c.loop-k.rho c.loop-k.x
    (omega (arith, c.loop-k-test.true)) c.power_step-rho.ensures.1
    c.if-rho.true ∙ c.loop-k.invariant

pub loop-k-preserved : goal.loop-k-preserved
loop-k-preserved c =
    let step = c.power_step-rho.ensures in
    power-on _ _ c.loop-k._k c.loop-k.rho c.loop-k.x
    (omega (arith, c.loop-k-test.true)) step.1
    c.if-rho.false (c.put_divided.ensures ∙ ap (divided c.power_step-rho.result) step.0)
    ∙ c.loop-k.invariant

pub returns : goal.returns
returns c = power-none _ _ c.loop-k._k c.loop-k.rho c.loop-k.x (omega arith) ∙ c.loop-k.invariant
