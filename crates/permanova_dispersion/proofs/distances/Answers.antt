-- `permanova_dispersion::distances` meets its contract. After i turns the first i entries are distances.
use Rattle.lists.proofs.Base.{sym, ap, ◌∙◌, arith, nan}
use Rattle.lists.proofs.{Ranges.map-table, Writes.writing-none, Writes.writing-next, Writes.writing-all, Writes.writing-here}
use Rattle.permanova_dispersion.specs.Dispersion.{distance_of}
use Rattle.permanova_dispersion.proofs.distances.Goals as goal

pub loop-x-init : goal.loop-x-init
loop-x-init c = writing-none _ _

pub loop-x-preserved : goal.loop-x-preserved
loop-x-preserved c = let inv = c.loop-x.invariant in writing-next _ _ inv (omega arith) (c.distance_of.ensures ∙ ap distance_of (writing-here _ _ nan inv))

pub returns : goal.returns
returns c = writing-all _ _ c.loop-x.invariant (omega arith) ∙ sym (map-table distance_of c.args.z.now nan)
