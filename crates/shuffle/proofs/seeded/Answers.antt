-- `shuffle::seeded` meets its contract. The product wraps.
use Rattle.lists.proofs.Base.{refl}
use Rattle.shuffle.specs.Shuffle.{seeded}
use Rattle.shuffle.proofs.seeded.Goals as goal

pub returns : goal.returns
unfolding seeded
returns c = refl
