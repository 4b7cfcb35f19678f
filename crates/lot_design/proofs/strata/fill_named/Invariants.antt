-- `lot_design::strata::fill_named` meets its contract. The strata of the samples passed are named.
use Rattle.lists.proofs.Base.{◌≡◌, ◌≤◌, length, take}
use Rattle.lot.specs.inner.Filled.{Filled}
use Rattle.lot.specs.{Strata.named}
use Rattle.lot_design.proofs.strata.fill_named.Given as goal

abbrev pub invariant-loop-s : goal.invariant-loop-s
invariant-loop-s l = (l.s-index ≤ length l.held) × (length l.ns ≡ length l.initial.ns) × Filled (named (take l.s-index l.held)) l.initial.ns l.ns l.k
