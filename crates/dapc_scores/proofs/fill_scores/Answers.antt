-- `dapc_scores::fill_scores` meets its contract. After i turns the scores of the first i samples stand there.
use Rattle.lists.proofs.Base.{◌+◌, ◌≤◌, ℕ, ◌*◌, ◌≡◌, sym, ap, ◌∙◌, arith, length, List, Float}
use Rattle.lists.proofs.{Rows.row-end, Rows.length_part, Writes.filling-none, Writes.filling-next, Writes.filling-all}
use Rattle.lists.proofs.Grids.{length_front}
use Rattle.dapc_scatter.specs.declared.samples.Samples.{Samples}
use Rattle.dapc_scores.proofs.Scoring.{scored, scored-long, scored-row, scored-all}
use Rattle.dapc_scores.proofs.fill_scores.Goals as goal

long : (s : Samples) (mean vs : List Float) (i : ℕ) → length (scored (length s.groups.now) s.sizes.columns s.sizes.lead s.sizes.axes s.x.now mean vs i) ≡ s.sizes.axes
long s mean vs = scored-long (length s.groups.now) s.sizes.columns s.sizes.lead s.sizes.axes s.x.now mean vs

pub loop-i-init : goal.loop-i-init
loop-i-init c = let a = c.args in (filling-none _ _ _ (long a.samples a.mean.now a.vs.now) _ c.requires.0, c.requires.1)

pub subtract-requires : goal.subtract-requires
subtract-requires c =
    let s = c.args.samples in
    let i = c.loop-i.i in
    let fits : i * s.sizes.columns + s.sizes.lead ≤ length s.x.now = omega (arith, row-end s.sizes.columns _ _ c.loop-i-test.true) in
    let wide = c.loop-i.invariant.1 in
    (length_front s.sizes.columns i s.sizes.lead s.x.now fits ∙ sym wide, c.requires.2 ∙ sym wide)

pub score_row-requires : goal.score_row-requires
score_row-requires c =
    let s = c.args.samples in
    let turn = c.loop-i in
    let fits : turn.i * s.sizes.axes + s.sizes.axes ≤ length turn.scores = omega (arith, row-end s.sizes.axes _ _ c.loop-i-test.true, turn.invariant.0.long) in
    (c.subtract.auto.row ∙ turn.invariant.1, c.requires.3 ∙ ap (λ (k : ℕ). k * s.sizes.lead) (sym (length_part s.sizes.axes turn.i turn.scores fits)))

pub loop-i-preserved : goal.loop-i-preserved
loop-i-preserved c =
    let a = c.args in
    let s = a.samples in
    let turn = c.loop-i in
    let fits : turn.i * s.sizes.axes + s.sizes.axes ≤ length turn.scores = omega (arith, row-end s.sizes.axes _ _ c.loop-i-test.true, turn.invariant.0.long) in (
      filling-next _ _ _ (long s a.mean.now a.vs.now) _ c.requires.0 turn.invariant.0 c.loop-i-test.true
          (scored-row (length s.groups.now) s.sizes.columns s.sizes.lead s.sizes.axes s.x.now a.mean.now a.vs.now turn.i turn.invariant.1 c.subtract.ensures
          (length_part s.sizes.axes turn.i turn.scores fits) c.score_row.ensures),
      c.subtract.auto.row ∙ turn.invariant.1,
    )

pub returns : goal.returns
returns c =
    let a = c.args in
    scored-all (length a.samples.groups.now) _ _ _ _ _ _ (filling-all _ _ _ (long a.samples a.mean.now a.vs.now) _ c.requires.0 c.loop-i.invariant.0 c.loop-i-test.false)
