-- `dapc_scores::nearest_centroid::assign` meets its contract. After i turns the first i samples are assigned and counted.
use Rattle.lists.proofs.Base.{◌≡◌, ◌*◌, ◌+◌, ◌≤◌, refl, sym, ap, ◌∙◌, Bool, true, false, cond, ℕ, arith, length}
use mir.Val.{bool_byte}
use Rattle.lists.proofs.Rows.{row-end, length_part}
use Rattle.outcome.specs.Outcome.{Told, passed, refused}
use Rattle.dapc_scores.proofs.Assigning.{assigning-none, assigning-next, assigning-pass, assigning-all}
use Rattle.dapc_scores.proofs.nearest_centroid.assign.Goals as goal
use Rattle.dapc_scores.proofs.nearest_centroid.assign.Goals.{in-None, in-Some}

-- one more, or none
one-more : (b : Bool) → bool_byte b ≡ cond b 1 0
one-more true = refl
one-more false = refl

pub loop-i-init : goal.loop-i-init
loop-i-init c = assigning-none _ _ _ _ _ _

pub nearest-b-requires : goal.nearest-b-requires
nearest-b-requires c =
    let a = c.args in
    let axes = a.samples.sizes.axes in
    let fits : c.loop-i.i * axes + axes ≤ length a.scores.now = omega (arith, row-end axes _ _ c.loop-i-test.true) in
    (length_part axes c.loop-i.i a.scores.now fits, c.requires.2, omega arith)

pub loop-i-preserved : goal.loop-i-preserved
loop-i-preserved c =
    let turn = c.loop-i in
    let more = c.loop-i-test.true in
    elim c.match-group.branch [
      | in-None w ↦ assigning-pass _ _ _ _ _ _ c.requires.0 turn.found turn.invariant more refl w.in-None.ensures w.found-is w.right-is w.unordered-is
      | in-Some w ↦ assigning-next _ _ _ _ _ _ c.requires.0 turn.found turn.invariant more w.in-Some.ensures.0 (λ q. omega (arith, w.in-Some.ensures.1))
          w.nearest-b.ensures.0 w.nearest-b.ensures.2 w.found-is (w.right-is ∙ ap (λ (k : ℕ). turn.right + k) (w.from-right.ensures ∙ one-more _)) w.unordered-is
    ]

-- what is told, by whether a distance is a NaN
abbrev by_test : Bool → Told
by_test b = cond b (refused 11) passed

pub returns-then-unordered : goal.returns-then-unordered
returns-then-unordered c =
    let all = assigning-all _ _ _ _ _ _ c.loop-i.found c.requires.0 c.loop-i.invariant c.loop-i-test.false in
    (all.0, all.1, ap by_test (sym c.if-unordered.true ∙ all.2))

pub returns-else-unordered : goal.returns-else-unordered
returns-else-unordered c =
    let all = assigning-all _ _ _ _ _ _ c.loop-i.found c.requires.0 c.loop-i.invariant c.loop-i-test.false in
    (all.0, all.1, ap by_test (sym c.if-unordered.false ∙ all.2))
