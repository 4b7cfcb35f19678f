-- `judge::judge_into` meets its contract. What is found is printed.
use Rattle.judge.proofs.JudgedTexts.{judged-text}
use Rattle.judge.proofs.judge_into.Goals as goal

pub returns : goal.returns
returns c = judged-text c.args.text.now c.args.out.now c.judge_text-a.ensures c.print_into.ensures
