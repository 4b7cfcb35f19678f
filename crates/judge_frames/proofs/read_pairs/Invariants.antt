-- `judge_frames::read_pairs` meets its contract. At each turn one pair more is taken, and the marks tell those that were.
use Rattle.judge_frames.specs.{Frames.pair_in, Frames.pair_count, Call.no_distances}
use Rattle.judge_frames.proofs.TakenFrames.{Taking}
use Rattle.judge_frames.proofs.Pairing.{Marked}
use Rattle.judge_frames.proofs.read_pairs.Given as goal

abbrev pub invariant-loop-k : goal.invariant-loop-k
invariant-loop-k l = Taking l.text (pair_in l.n) (pair_count l.n) l.from (Marked l.n no_distances l.distances l.seen) l.at l.k
