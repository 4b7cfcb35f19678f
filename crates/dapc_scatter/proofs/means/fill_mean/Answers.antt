-- `dapc_scatter::means::fill_mean` meets its contract. Sums, divided.
use Rattle.lists.proofs.Base.{ap, ◌∙◌, ◌^◌, arith, le→leb, length, length-replicate}
use lib.Ieee.{in_float}
use Rattle.float.specs.Floats.{zero⁻}
use Rattle.dapc_scatter.proofs.MeanSums.{mean-is}
use Rattle.dapc_scatter.proofs.means.fill_mean.Goals as goal

pub add_grouped-requires : goal.add_grouped-requires
add_grouped-requires c = ap length c.requires.0 ∙ length-replicate c.args.leading.lead zero⁻

pub int_to_float-m : goal.int_to_float-m
unfolding in_float
int_to_float-m c = le→leb c.args.m (2 ^ 53) (omega arith)

pub returns : goal.returns
returns c =
    let s = c.args.leading in
    mean-is s.lead s.columns s.x.now s.groups.now c.requires.0 c.add_grouped.ensures c.requires.1 c.divide.ensures
