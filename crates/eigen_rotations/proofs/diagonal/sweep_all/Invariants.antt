-- `eigen_rotations::diagonal::sweep_all` meets its contract. What is left to do after the sweeps made gives what was to be done at the start.
use Rattle.lists.proofs.Base.{◌≡◌, ◌-◌}
use Rattle.eigen_rotations.specs.{Rotation.turned, Sweeps.sweeps_from}
use Rattle.eigen_rotations.proofs.diagonal.sweep_all.Given as goal

abbrev pub invariant-loop-made : goal.invariant-loop-made
invariant-loop-made l = sweeps_from (100 - l.made) l.n l.made (turned l.m l.v) ≡ sweeps_from 100 l.n 0 (turned l.initial.m l.initial.v)
