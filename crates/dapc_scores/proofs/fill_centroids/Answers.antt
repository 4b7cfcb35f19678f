-- `dapc_scores::fill_centroids` meets its contract. After i turns the first i samples are added.
use Rattle.lists.proofs.Base.{◌+◌, ◌≤◌, ◌*◌, ◌^◌, refl, sym, ap, ◌∙◌, arith, le→leb, length, length-replicate}
use lib.Ieee.{in_float}
use Rattle.float.specs.Floats.{zero⁺}
use Rattle.lists.proofs.Rows.{row-end, length_part}
use Rattle.dapc_scatter.proofs.{Adding.adding-none, Counting.length-sizes}
use Rattle.dapc_scores.proofs.Scoring.{centroid-turn, centroid-pass, centroid-end}
use Rattle.dapc_scores.proofs.fill_centroids.Goals as goal
use Rattle.dapc_scores.proofs.fill_centroids.Goals.{in-Some, in_default}

pub loop-i-init : goal.loop-i-init
loop-i-init c = adding-none _ _ _ _ _ _ (ap length c.requires.0 ∙ length-replicate (c.args.samples.sizes.groups * c.args.samples.sizes.axes) zero⁺)

pub entry-n-requires : goal.entry-n-requires
entry-n-requires c =
    let s = c.args.samples in
    omega (arith, c.in-Some.ensures.1, ap length c.requires.2 ∙ length-sizes s.groups.now (length s.groups.now) s.sizes.groups)

pub int_to_float-n : goal.int_to_float-n
unfolding in_float
int_to_float-n c = le→leb c.entry-n.result (2 ^ 53) (omega (arith, c.entry-n.ensures, c.type_inv.counts c.in-Some.j))

pub add_quotients-requires : goal.add_quotients-requires
add_quotients-requires c =
    let s = c.args.samples in
    let axes = s.sizes.axes in
    let turn = c.loop-i in
    let j = c.in-Some.j in
    let sample : turn.i * axes + axes ≤ length c.args.scores.now = omega (arith, row-end axes _ _ c.loop-i-test.true) in
    let group : j * axes + axes ≤ length turn.cen = omega (arith, row-end axes j s.sizes.groups c.in-Some.ensures.1, turn.invariant.long) in
    length_part axes turn.i c.args.scores.now sample ∙ sym (length_part axes j turn.cen group)

pub loop-i-preserved : goal.loop-i-preserved
loop-i-preserved c =
    let more = c.loop-i-test.true in
    let turn = c.loop-i in
    let groups = c.args.samples.groups.now in
    let scores = c.args.scores.now in
    let counts = c.args.counts.now in
    elim c.match-group.branch [
      | in-Some w ↦ centroid-turn _ _ groups scores counts _ turn.cen _ turn.invariant more w.in-Some.ensures.0 w.in-Some.ensures.1 w.entry-n.ensures w.add_quotients.ensures w.cen-is
      | in_default w ↦ centroid-pass _ _ groups scores counts _ turn.cen turn.invariant more refl (omega arith) w.in_default.ensures w.cen-is
    ]

pub returns : goal.returns
returns c = centroid-end _ _ _ _ _ _ c.loop-i.invariant c.loop-i-test.false c.requires.0 c.requires.2
