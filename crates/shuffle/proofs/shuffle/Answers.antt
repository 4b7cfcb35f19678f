-- `shuffle::shuffle` meets its contract. After k turns the first k parts are shuffled.
use Rattle.lists.proofs.Base.{ap, ◌∙◌, List, ℕ, arith}
use Rattle.grouping.proofs.SortedParts.{part-there, part-below}
use Rattle.shuffle.specs.Shuffle.{shuffle_stratum}
use Rattle.shuffle.specs.inner.Shuffle.{shuffling}
use Rattle.shuffle.proofs.Draws.{parts-shuffled-none, parts-shuffled-next, parts-shuffled-all}
use Rattle.shuffle.proofs.shuffle.Goals as goal

pub loop-k-init : goal.loop-k-init
loop-k-init c = parts-shuffled-none

pub part-requires : goal.part-requires
part-requires c = part-there _ _ _ _ _ c.requires (omega arith)

pub shuffle_stratum-requires : goal.shuffle_stratum-requires
shuffle_stratum-requires c =
    let below = part-below _ _ _ _ _ _ c.requires (omega arith) c.part.ensures.items in λ x h. omega (arith, c.loop-k.invariant.long, below x h)

pub loop-k-preserved : goal.loop-k-preserved
loop-k-preserved c =
    let step = c.shuffle_stratum.ensures ∙ ap (λ (p : List ℕ). shuffle_stratum p (shuffling c.loop-k.state c.loop-k.lab)) c.part.ensures.items in
    parts-shuffled-next c.loop-k.invariant (omega arith) c.shuffle_stratum.auto.lab step

pub returns : goal.returns
returns c = parts-shuffled-all c.loop-k.invariant (omega arith)
