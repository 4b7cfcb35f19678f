-- `dapc_discriminant::analysis::decompose` meets its contract. By the pivots, and by the answer of the eigenpairs.
use Rattle.lists.proofs.Base.{◌∙◌, ◌+◌, ◌*◌, ◌≤◌, arith, length, replicate, length-take-le}
use Rattle.float.specs.Floats.{zero⁺}
use Rattle.lists.proofs.Parts.{take-replicate}
use Rattle.lists.proofs.Fronts.{Back, back}
use Rattle.dapc_discriminant.proofs.DiscriminantCases.{square-fits, pivot-fails, eigen-refuses, eigen-answers}
use Rattle.dapc_discriminant.proofs.analysis.decompose.Goals as goal
use Rattle.dapc_discriminant.proofs.analysis.decompose.Goals.{After-factor, After-eigenpairs}

factor_part : (c : After-factor) → let p = c.args.samples.sizes.lead in Back (p * p) (replicate 256 zero⁺) c.factor.new.l
factor_part c =
    let p = c.args.samples.sizes.lead in
    back (p * p) (replicate 256 zero⁺) c.factor.new.l (square-fits p c.args.samples.narrow) c.factor.auto.l

pairs_part : (c : After-eigenpairs) → let p = c.args.samples.sizes.lead in Back (p + p * p) (replicate 272 zero⁺) c.eigenpairs.new.ev
pairs_part c =
    let p = c.args.samples.sizes.lead in
    back (p + p * p) (replicate 272 zero⁺) c.eigenpairs.new.ev (omega (arith, square-fits p c.args.samples.narrow, c.args.samples.narrow)) c.eigenpairs.auto.ev

pub factor-requires : goal.factor-requires
factor-requires c =
    let p = c.args.samples.sizes.lead in (c.requires.within, take-replicate (p * p) 256 zero⁺ (square-fits p c.args.samples.narrow))

pub returns-in-Err : goal.returns-in-Err
returns-in-Err c =
    let a = c.args in
    let s = a.samples in
    pivot-fails (length s.groups.now) s.sizes s.x.now s.groups.now a.mean.now a.a.now a.sb.now a.out.now a.assigned.now c.in-Err.ensures.0 c.in-Err.ensures.1 c.refuse.ensures

pub eigenpairs-requires : goal.eigenpairs-requires
eigenpairs-requires c =
    let s = c.args.samples in
    let p = s.sizes.lead in
    let room : p + p * p ≤ 272 = omega (arith, square-fits p s.narrow, s.narrow) in
    record { pairs = length-take-le _ _ room; factor = length-take-le _ _ (factor_part (goal.at.eigenpairs-requires c).After-factor).fits; between = c.requires.between; narrow = s.narrow }

pub returns-in-Err-eigenpairs : goal.returns-in-Err-eigenpairs
returns-in-Err-eigenpairs c =
    let a = c.args in
    let s = a.samples in
    eigen-refuses (length s.groups.now) s.sizes s.x.now s.groups.now a.mean.now a.a.now a.sb.now a.out.now a.assigned.now
    ((factor_part (goal.at.returns-in-Err-eigenpairs c).After-factor).front ∙ c.in_default.ensures.0) c.in_default.ensures.1
    c.in-Err-eigenpairs.ensures c.refuse-in-Err-eigenpairs.ensures

pub allocate-requires : goal.allocate-requires
allocate-requires c =
    let pre = c.requires in
    record {
      fitting = pre.fitting;
      pairs = length-take-le _ _ (pairs_part (goal.at.allocate-requires c).After-eigenpairs).fits;
      factor = length-take-le _ _ (factor_part (goal.at.allocate-requires c).After-factor).fits;
      means = pre.means;
      counted = pre.counted;
    }

pub returns : goal.returns
returns c =
    let a = c.args in
    let s = a.samples in
    eigen-answers (length s.groups.now) s.sizes s.x.now s.groups.now a.mean.now a.a.now a.sb.now a.out.now a.assigned.now
    ((factor_part (goal.at.returns c).After-factor).front ∙ c.in_default.ensures.0) c.in_default.ensures.1
    c.eigenpairs.new.ev c.in_default-eigenpairs.ensures (pairs_part (goal.at.returns c).After-eigenpairs).front c.allocate.ensures
