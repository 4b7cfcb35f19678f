use Rattle.std.proofs.Common.{◌-◌, ◌<◌, ◌≤◌}
use Rattle.run_numbers.proofs.squares.Given as goal

abbrev pub invariant-loop-n : goal.invariant-loop-n
invariant-loop-n g l = (0 < l.n) × (l.n ≤ 0x800_0000)

abbrev pub decreases-loop-n : goal.decreases-loop-n
decreases-loop-n g l = 0x800_0000 - l.n
