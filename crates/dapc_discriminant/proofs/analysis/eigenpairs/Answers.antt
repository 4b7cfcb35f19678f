-- `dapc_discriminant::analysis::eigenpairs` meets its contract. The eigenpairs of the whitened matrix.
use Rattle.lists.proofs.Base.{ap, ◌∙◌, List, ◌*◌, ◌≤◌, arith, replicate, length-take-le, Float}
use Rattle.float.specs.Floats.{zero⁺}
use Rattle.lists.proofs.Parts.{take-replicate}
use Rattle.lists.proofs.Fronts.{Back, back}
use Rattle.eigen_jacobi.specs.Eigen.{jacobi}
use Rattle.eigen_jacobi.specs.inner.Call.{Solved, solution}
use Rattle.dapc_discriminant.proofs.DiscriminantCases.{square-fits}
use Rattle.dapc_discriminant.proofs.analysis.eigenpairs.Goals as goal

-- the whitened matrix and its half stand at the front of arrays of zeros
abbrev zeros : List Float
zeros = replicate 256 zero⁺

pub whiten-requires : goal.whiten-requires
whiten-requires c =
    let square-here : c.args.p * c.args.p ≤ 256 = square-fits c.args.p c.requires.narrow in
    let none = take-replicate (c.args.p * c.args.p) 256 zero⁺ square-here in (none, none, c.requires.factor, c.requires.between)

pub eigen_within-requires : goal.eigen_within-requires
eigen_within-requires c =
    let square-here : c.args.p * c.args.p ≤ 256 = square-fits c.args.p c.requires.narrow in
    let white-here : Back (c.args.p * c.args.p) zeros c.whiten.new.m = back (c.args.p * c.args.p) zeros c.whiten.new.m square-here c.whiten.auto.m in
    let half-here : Back (c.args.p * c.args.p) zeros c.whiten.new.half = back (c.args.p * c.args.p) zeros c.whiten.new.half square-here c.whiten.auto.half in
    let narrow = c.requires.narrow in record {
      a_len = (length-take-le _ _ white-here.fits, c.requires.pairs, length-take-le _ _ half-here.fits, length-take-le _ _ square-here);
      n_in_bounds = (narrow, omega arith);
    }

pub returns : goal.returns
unfolding solution
returns c =
    let square-here : c.args.p * c.args.p ≤ 256 = square-fits c.args.p c.requires.narrow in
    let white-here : Back (c.args.p * c.args.p) zeros c.whiten.new.m = back (c.args.p * c.args.p) zeros c.whiten.new.m square-here c.whiten.auto.m in
    ap (λ (s : Solved). s.found) c.eigen_within.ensures ∙ ap (jacobi c.args.p) (white-here.front ∙ c.whiten.ensures)
