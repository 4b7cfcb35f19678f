-- `eigen_rotations::diagonal::sweep_all` meets its contract. What is left to do after the sweeps made gives what was to be done at the start.
use Rattle.lists.proofs.Base.{sym, ap, ◌∙◌, arith, Float, lt}
use Rattle.float.specs.Floats.{1e-22}
use Rattle.eigen_rotations.specs.{Sweeps.sweeps_from}
use Rattle.eigen_rotations.proofs.Sweeping.{sweeps-end, sweeps-on, sweeps-all}
use Rattle.eigen_rotations.proofs.diagonal.sweep_all.Goals as goal

pub returns-then-off_diagonal : goal.returns-then-off_diagonal
returns-then-off_diagonal c =
    sweeps-end _ _ _ c.loop-made-test.true (ap (λ (t : Float). lt t 1e-22) (sym c.off_diagonal.ensures) ∙ c.if-off_diagonal.true) ∙ c.loop-made.invariant

pub loop-made-preserved : goal.loop-made-preserved
loop-made-preserved c =
    ap (sweeps_from _ _ _) c.sweep.ensures
    ∙ sweeps-on _ _ _ c.loop-made-test.true (ap (λ (t : Float). lt t 1e-22) (sym c.off_diagonal.ensures) ∙ c.if-off_diagonal.false)
    ∙ c.loop-made.invariant

pub returns : goal.returns
returns c = sweeps-all _ _ _ (omega arith) ∙ c.loop-made.invariant
