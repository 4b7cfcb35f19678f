-- `judge_printing::put_short` meets its contract. One text after another.
use Rattle.judge_printing.proofs.Writing.{wrote_then}
use Rattle.judge_printing.proofs.put_short.Goals as goal

pub returns : goal.returns
returns c = wrote_then (wrote_then c.put_hex-p.ensures c.put_hex-q.ensures) c.put_feed.ensures
