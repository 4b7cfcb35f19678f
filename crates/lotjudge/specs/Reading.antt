-- What is printed of what was read. Definitions only.
use Rattle.std.specs.Prelude.{ℕ, true, false, List, take, Result, Ok, Err}
use Rattle.judge.specs.Judge.{judge_input}

-- the first n bytes of a buffer were read, or the reading failed
abbrev pub printed_of : {E : Type 0} → Result ℕ E → List ℕ → List ℕ
printed_of (Ok n) buffer = judge_input false (take n buffer)
printed_of (Err e) buffer = judge_input true buffer
