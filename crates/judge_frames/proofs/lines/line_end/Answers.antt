-- `judge_frames::lines::line_end` meets its contract: `position` finds the first line feed.
use Rattle.lists.proofs.Base.{ℕ, ◌+◌, ◌-◌, ◌≡◌, ap, ◌∙◌, rules, length, take, drop, take_all, length-drop, arith}
use Rattle.lists.specs.Filters.{first_at}
use Rattle.std.proofs.Common.{tests}
use Rattle.std.proofs.lemmas.Iterator.{YieldsList-from_slice}
use Rattle.std.proofs.lemmas.Iterator.Search.{position_from_yields_List}
use Rattle.judge_frames.specs.TextLines.{feed}
use Rattle.judge_frames.proofs.TextLines.{first_feed}
use Rattle.judge_frames.proofs.lines.line_end.Goals as goal

pub returns : goal.returns
returns c =
    let rest = take (length c.args.text.now - c.args.at) (drop c.args.at c.args.text.now) in
    let all : rest ≡ drop c.args.at c.args.text.now = take_all _ _ (omega (arith, length-drop c.args.at c.args.text.now)) in
    let p = position_from_yields_List feed _ _ _ c.position-feed.ensures.ran (YieldsList-from_slice rest c.iter.ensures.rest) (λ x b q k. search (rules, tests)) in
    ap (λ (k : ℕ). c.args.at + k) (c.unwrap_or.ensures ∙ first_feed rest p ∙ ap (first_at feed) all)
