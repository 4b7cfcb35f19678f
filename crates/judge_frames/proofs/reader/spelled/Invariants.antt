-- `judge_frames::reader::spelled` meets its contract. What is spelled with the digits that are left is the same at every turn, and after k digits the number is
-- below 16 to the k.
use Rattle.lists.proofs.Base.{◌<◌, ◌^◌, ◌≡◌, drop}
use Rattle.judge_frames.specs.Hex.{spelled}
use Rattle.judge_frames.proofs.reader.spelled.Given as goal

abbrev pub invariant-loop-c : goal.invariant-loop-c
invariant-loop-c l = (l.v < 16 ^ l.c-index) × (spelled l.v (drop l.c-index l.digits) ≡ spelled 0 l.digits)
