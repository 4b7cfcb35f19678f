-- What the walk is asked from the first sample, with the rows filled.
use Rattle.lists.proofs.Base.{◌≡◌, subst, ℕ, ◌≤◌, arith, length}
use mathlib.Core.List.{List, Memᴰ as Member}
use Rattle.exhaustive_ways.specs.inner.Remaining.{HasRows, tallies}
use Rattle.exhaustive_ways.proofs.{CountsLeft.onward-ways, WayOrder.onward-count, WayOrder.node-first}
use Rattle.exhaustive_walk.specs.declared.way_statistics.Frame.{Frame}
use Rattle.exhaustive_walk.specs.inner.{WayStatistics.Framed, Walks.Walking, Walks.Walkable}

pub start-walking : (f : Frame) (ks ss gs counts : List ℕ) → HasRows f.groups ss counts → {filled : List ℕ} → filled ≡ tallies f.groups ss gs (length counts)
    → (way : List ℕ) → Framed f (length ks) → Walkable f.n f.groups ks ss gs → length way ≡ length ss → Walking f ks ss filled way
start-walking f ks ss gs counts rows e way framed walkable sized =
    let g = f.groups in
    let few : length ss ≤ 256 = omega (arith, walkable.samples, framed.kept) in record {
      node = node-first g ss gs counts rows e way walkable.grouped walkable.below sized few framed.most;
      few = omega (arith, onward-count g ss gs counts rows e walkable.grouped walkable.below, walkable.few);
      judged = λ way m. walkable.judged way (subst (Member way) (onward-ways g ss gs counts rows e) m);
    }
