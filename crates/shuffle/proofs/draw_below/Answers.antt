-- `shuffle::draw_below` meets its contract. The next word, mod the bound.
use Rattle.shuffle.specs.Shuffle.{draw_below}
use Rattle.shuffle.proofs.draw_below.Goals as goal

pub returns : goal.returns
unfolding draw_below
returns c = (rw c.next-d.ensures, rw c.next-d.ensures)
