-- `eigen_top::leading::by_jacobi` meets its contract. By what Jacobi answers.
use Rattle.lists.proofs.Base.{ap, ◌∙◌, List, ◌*◌, arith, take, drop, length-take-le, take-take, Float}
use Rattle.lists.specs.Writes.{cleared}
use Rattle.eigen_jacobi.proofs.Calls.{solved-found}
use Rattle.eigen_ritz.proofs.FoundPairs.{found-refused, found-answered}
use Rattle.eigen_top.specs.Leading.{leading}
use Rattle.eigen_top.proofs.LeadingFronts.{length-leading}
use Rattle.eigen_top.proofs.leading.by_jacobi.Goals as goal

pub returns-in-Err : goal.returns-in-Err
unfolding leading cleared
returns-in-Err c =
    found-refused _ _ _ c.requires.0 _ _ _ _ (solved-found _ _ _ c.eigen_within.result c.eigen_within.ensures) c.in-Err.is (c.fill.ensures.after (λ _ e. e))

pub returns-in-Ok : goal.returns-in-Ok
unfolding leading
returns-in-Ok c =
    let a = c.args in
    let pairs = c.eigen_within.new.out in
    let long = c.eigen_within.auto.out ∙ c.requires.1 in
    let few = c.requires.6 in
    let vectors = take (a.k * a.n) (drop a.n pairs) in
    found-answered _ _ _ c.requires.0 _ _ _
    _ (solved-found _ _ _ c.eigen_within.result c.eigen_within.ensures) (take a.k pairs) vectors c.in-Ok.is
    (length-take-le a.k pairs (omega (arith, long, few))) (length-leading a.n a.k pairs long few)
    c.copy_leading.ensures (ap (λ (l : List Float). record { values = l; vectors = vectors }) (take-take a.k a.n pairs few))
