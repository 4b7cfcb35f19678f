-- `judge_frames::lines::line_at` meets its contract: the first of the frames is the line's up to its line feed.
use Rattle.lists.proofs.Base.{arith}
use Rattle.judge_frames.proofs.TextLines.{line-end-in, line-past, line-there, next-line}
use Rattle.judge_frames.proofs.lines.line_at.Goals as goal

pub returns-then-text-at : goal.returns-then-text-at
returns-then-text-at c = line-past _ _ c.if-text-at.true

pub slice_bounds-parse-end : goal.slice_bounds-parse-end
slice_bounds-parse-end c = let e = line-end-in c.args.text.now c.args.at (omega arith) in omega (arith, c.line_end-e.ensures, e)

pub returns : goal.returns
returns c =
    let e = line-end-in c.args.text.now c.args.at (omega arith) in
    line-there _ _ _ _ c.if-text-at.false c.line_end-e.ensures c.parse.ensures (next-line _ _ _ (omega (arith, c.line_end-e.ensures, e)) c.min.ensures)
