-- `judge_frames::pairs::put_pair` meets its contract. The tests say whether the pair is new, and its cells lie within 32 rows of 32.
use Rattle.lists.proofs.Base.{arith}
use Rattle.judge_frames.proofs.PairCells.{not-upper, not-inside, unmarked, put-none, put_one}
use Rattle.judge_frames.proofs.pairs.put_pair.Goals as goal
use Rattle.judge_frames.proofs.pairs.put_pair.Goals.{then-j-i-via-then-j-i, then-j-i-via-else-j-i+then-n-j}

pub returns-then-j-i : goal.returns-then-j-i
returns-then-j-i c = put-none _ _ _ _ (elim c.then-j-i.branch [
  | then-j-i-via-then-j-i w ↦ not-upper _ _ _ (omega arith)
  | then-j-i-via-else-j-i+then-n-j w ↦ not-inside _ _ _ (omega arith) (omega arith)
])

pub returns-then-seen-upper : goal.returns-then-seen-upper
returns-then-seen-upper c = put-none _ _ _ _ (unmarked _ _ _ c.from-i.ensures c.from-j.ensures c.if-j-i.false c.if-n-j.false c.if-seen-upper.true)

pub returns : goal.returns
returns c =
    put_one _ _ _ _ (unmarked _ _ _ c.from-i.ensures c.from-j.ensures c.if-j-i.false c.if-n-j.false c.if-seen-upper.false)
    c.from-i.ensures c.from-j.ensures c.float_of-d.ensures
