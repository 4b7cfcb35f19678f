-- `dapc_scatter::means::add_grouped` meets its contract. After i turns the first i samples are added.
use Rattle.lists.proofs.Base.{◌*◌, ◌+◌, ◌≤◌, refl, sym, ◌∙◌, arith, length}
use Rattle.lists.proofs.{Rows.row-end, Grids.length_front}
use Rattle.dapc_scatter.proofs.{Adding.adding-none, Groups.group-some, Groups.group-none, MeanSums.all-turn, MeanSums.all_pass, MeanSums.all_end}
use Rattle.dapc_scatter.proofs.means.add_grouped.Goals as goal
use Rattle.dapc_scatter.proofs.means.add_grouped.Goals.{then-is_some, else-is_some}

pub loop-i-init : goal.loop-i-init
loop-i-init c = adding-none _ _ _ _ _ _ (omega arith)

pub add-requires : goal.add-requires
add-requires c =
    let s = c.args.leading in
    let fits : c.loop-i.i * s.columns + s.lead ≤ length s.x.now = omega (arith, row-end s.columns _ _ c.loop-i-test.true) in
    omega (arith, length_front s.columns c.loop-i.i s.lead s.x.now fits, c.loop-i.invariant.long)

pub loop-i-preserved : goal.loop-i-preserved
loop-i-preserved c =
    let turn = c.loop-i in
    let s = c.args.leading in
    let told = c.group.ensures in
    elim c.if-is_some.branch [
      | then-is_some w ↦ all-turn s.lead s.columns s.x.now s.groups.now _ turn.sum turn.invariant c.loop-i-test.true refl
          (λ q. group-some _ _ _ told (λ j h. h.1 (h.0 ∙ q)) (sym c.is_some.ensures ∙ w.if-is_some.true)) (w.sum-is ∙ w.add.ensures)
      | else-is_some w ↦ all_pass s.lead s.columns s.x.now s.groups.now _ turn.sum turn.invariant c.loop-i-test.true refl
          (group-none _ _ _ told (sym c.is_some.ensures ∙ w.if-is_some.false)) w.sum-is
    ]

pub returns : goal.returns
returns c = let s = c.args.leading in all_end s.lead s.columns s.x.now s.groups.now _ c.loop-i.invariant c.loop-i-test.false
