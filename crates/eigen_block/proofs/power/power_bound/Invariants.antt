-- `eigen_block::power::power_bound` meets its contract. After k steps, what is left to do from here gives what was to be done at the start.
use Rattle.lists.proofs.Base.{◌≡◌, ◌-◌}
use Rattle.float.specs.Floats.{zero⁺}
use Rattle.eigen_block.specs.Power.{power_bound}
use Rattle.eigen_block.proofs.power.power_bound.Given as goal

abbrev pub invariant-loop-k : goal.invariant-loop-k
invariant-loop-k l = power_bound (30 - l._k) l.a.n l.a.entries.now l.rho l.x ≡ power_bound 30 l.a.n l.a.entries.now zero⁺ l.initial.x
