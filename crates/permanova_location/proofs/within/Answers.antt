-- `permanova_location::within` meets its contract. All parts go by two, but a last odd one.
use Rattle.lists.proofs.Base.{refl, ℕ, ◌+◌, ◌-◌, ◌*◌, ◌/◌, arith, Float}
use Rattle.float.specs.Floats.{zero⁻}
use Rattle.grouping.specs.inner.Parts.{part}
use Rattle.grouping.proofs.SortedParts.{part-there, part-below}
use Rattle.permanova_location.specs.Location.{group_within}
use Rattle.permanova_location.proofs.GroupSums.{table-next, table_same, within-is}
use Rattle.permanova_location.proofs.within.Goals as goal

pub returns-then-g-eq0 : goal.returns-then-g-eq0
returns-then-g-eq0 c =
    let each : ℕ → Float = λ k. group_within c.args.t.now c.args.w.now c.args.m (part c.args.groups.now.starts c.args.groups.now.members k) in
    let all = table_same zero⁻ each (2 * (c.args.g / 2)) c.args.g (omega arith) c.within_twos-s.ensures in
    record { sum = all; of_labels = λ lab grouped. within-is _ _ lab _ _ _ _ grouped all }

pub part-p-requires : goal.part-p-requires
part-p-requires c = part-there _ _ (c.args.g - 1) _ _ c.requires.2 (omega arith)

pub group_within-requires : goal.group_within-requires
group_within-requires c = (c.requires.0, c.requires.1, part-below _ _ (c.args.g - 1) _ _ _ c.requires.2 (omega arith) c.part-p.ensures.items)

pub returns : goal.returns
returns c =
    let each : ℕ → Float = λ k. group_within c.args.t.now c.args.w.now c.args.m (part c.args.groups.now.starts c.args.groups.now.members k) in
    let last = c.args.g - 1 in
    let all = table_same zero⁻ each (last + 1) c.args.g (omega arith)
    (table-next zero⁻ each last (table_same zero⁻ each (2 * (c.args.g / 2)) last (omega arith) c.within_twos-s.ensures)
    (rw c.part-p.ensures.items at c.group_within.ensures) refl) in
    record { sum = all; of_labels = λ lab grouped. within-is _ _ lab _ _ _ _ grouped all }
