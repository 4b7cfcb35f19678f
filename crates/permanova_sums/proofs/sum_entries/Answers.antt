-- `permanova_sums::sum_entries` meets its contract. The entries at the samples still to come, added to u, are always the whole sum.
use Rattle.lists.proofs.Base.{refl, arith}
use Rattle.lists.specs.{Rows.entry}
use Rattle.lists.proofs.Sums.{list-turn, list-end}
use Rattle.permanova_sums.proofs.sum_entries.Goals as goal

pub cell-u-requires : goal.cell-u-requires
cell-u-requires c = (c.requires.0, c.requires.2, c.requires.1 c.loop-b.b-index (omega arith))

pub loop-b-preserved : goal.loop-b-preserved
loop-b-preserved c = list-turn (entry _ _ _) _ c.args.mem.now c.loop-b.b-index 0 (omega arith) c.cell-u.ensures refl c.loop-b.invariant

pub returns : goal.returns
returns c = list-end (entry _ _ _) _ c.args.mem.now c.loop-b.b-index (omega arith) c.loop-b.invariant
