-- `judge_frames::read_samples` meets its contract. At each turn one frame more is taken.
use Rattle.judge_frames.specs.Frames.{sample_in}
use Rattle.judge_frames.specs.inner.Stages.{Sampled}
use Rattle.judge_frames.proofs.TakenFrames.{Taking}
use Rattle.judge_frames.proofs.read_samples.Given as goal

abbrev pub invariant-loop-k : goal.invariant-loop-k
invariant-loop-k l = Taking l.text sample_in l.n l.from (Sampled l.labels l.strata) l.at l.k
