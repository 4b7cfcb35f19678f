-- `permanova_dispersion::anova::residual` meets its contract. The residuals still to come, added to s, are always the whole sum.
use Rattle.lists.proofs.Base.{sym, arith, length, nan}
use Rattle.float.specs.Floats.{zero⁻}
use Rattle.std.proofs.lemmas.List.{length_push}
use Rattle.std.proofs.lemmas.Slice.Zip.{zip_turn, zip_end}
use Rattle.lists.proofs.Sums.{sum-end, sum-table}
use Rattle.permanova_dispersion.specs.Anova.{residual_at, residual}
use Rattle.permanova_dispersion.proofs.Residuals.{residual-turn}
use Rattle.permanova_dispersion.proofs.anova.residual.Goals as goal

pub loop-x-init : goal.loop-x-init
unfolding residual
loop-x-init c = sym (sum-table zero⁻ (length c.args.z.now) (residual_at c.args.z.now c.args.means.now c.args.lab.now))

pub loop-x-preserved : goal.loop-x-preserved
loop-x-preserved c =
    let a = c.args in
    let turn = c.loop-x in
    let t = zip_turn a.z.now a.lab.now turn.yielded c.into_iter-x-iterator.result turn.x-iterator c.next.new.self _ (cc) (cc) turn.yielded_by _ c.in-Some.is c.next.ensures.steps in
    residual-turn a.z.now a.means.now a.lab.now (length turn.yielded) turn.s t.0 (t.2 nan) (t.3 0) (length_push turn.yielded _) turn.invariant

pub returns : goal.returns
returns c =
    let a = c.args in
    let turn = c.loop-x in
    let t = zip_end a.z.now a.lab.now turn.yielded c.into_iter-x-iterator.result turn.x-iterator c.next.new.self _ (cc) (cc) turn.yielded_by c.in-None.is c.next.ensures.steps in
    sum-end (residual_at a.z.now a.means.now a.lab.now) turn.s (length turn.yielded) (length a.z.now) (omega (arith, t, c.requires.0)) turn.invariant
