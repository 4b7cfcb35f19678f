-- `permanova_location::within_twos` meets its contract. s is always the sum over the parts before 2 j.
use Rattle.lists.proofs.Base.{ap, ◌+◌, ◌*◌, ◌/◌, arith}
use Rattle.float.specs.Floats.{zero⁻}
use Rattle.grouping.proofs.SortedParts.{part-there, part-below}
use Rattle.permanova_location.specs.Location.{group_within}
use Rattle.permanova_location.proofs.GroupSums.{table_none, table_same, table-two}
use Rattle.permanova_location.proofs.within_twos.Goals as goal

pub loop-j-init : goal.loop-j-init
loop-j-init c = (omega arith, table_none zero⁻ _)

pub overflow_mul-j : goal.overflow_mul-j
overflow_mul-j c = omega (arith, c.ranges.g)

pub part-p-requires : goal.part-p-requires
part-p-requires c = part-there _ _ (2 * c.loop-j.j) _ _ c.requires.2 (omega arith)

pub overflow_mul-j-in-loop-j : goal.overflow_mul-j-in-loop-j
overflow_mul-j-in-loop-j c = omega (arith, c.ranges.g)

pub overflow_add-j : goal.overflow_add-j
overflow_add-j c = omega (arith, c.ranges.g)

pub part-q-requires : goal.part-q-requires
part-q-requires c = part-there _ _ (2 * c.loop-j.j + 1) _ _ c.requires.2 (omega arith)

pub add_two-s-requires : goal.add_two-s-requires
add_two-s-requires c = (
  c.requires.0,
  c.requires.1,
  part-below _ _ _ _ _ _ c.requires.2 (omega arith) c.part-p.ensures.items,
  part-below _ _ _ _ _ _ c.requires.2 (omega arith) c.part-q.ensures.items,
)

pub loop-j-preserved : goal.loop-j-preserved
loop-j-preserved c =
    let turn = c.loop-j in (
      omega arith,
      table-two zero⁻ _ turn.j turn.invariant.1 (ap (group_within _ _ _) c.part-p.ensures.items)
          (ap (group_within _ _ _) c.part-q.ensures.items) c.add_two-s.ensures,
    )

pub returns : goal.returns
returns c = table_same zero⁻ _ (2 * c.loop-j.j) (2 * (c.args.g / 2)) (omega arith) c.loop-j.invariant.1
