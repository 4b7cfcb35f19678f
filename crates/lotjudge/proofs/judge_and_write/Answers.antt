-- `lotjudge::judge_and_write` meets its contract. What is printed stands in the output.
use Rattle.judge.proofs.JudgedTexts.{size_fits}
use Rattle.lotjudge.specs.Reading.{printed_of}
use Rattle.lotjudge.proofs.judge_and_write.Goals as goal

pub write_front-requires : goal.write_front-requires
write_front-requires c = size_fits (printed_of c.args.read c.args.buffer.now) c.args.out.now c.print_input-n.ensures
