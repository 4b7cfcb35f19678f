-- What was read lies within the buffer, and each turn reads a byte or more.
use Rattle.std.proofs.Common.{◌≤◌, ◌-◌, length}
use Rattle.lotjudge.proofs.read_input.Given as goal

abbrev pub invariant-loop-n : goal.invariant-loop-n
invariant-loop-n g l = l.n ≤ length l.buffer

abbrev pub decreases-loop-n : goal.decreases-loop-n
decreases-loop-n g l = length l.buffer - l.n
