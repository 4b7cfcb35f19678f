-- `eigen_vectors::dot` meets its contract. The invariant: with the products of the pairs still to come, s is the whole.
use Rattle.lists.proofs.Base.{arith, nan}
use Rattle.std.proofs.lemmas.List.{length_push}
use Rattle.std.proofs.lemmas.Slice.Zip.{zip_turn, zip_end}
use Rattle.eigen_vectors.proofs.Entries.{summing-none, summing-turn, summing-all}
use Rattle.eigen_vectors.proofs.dot.Goals as goal

pub loop-a-init : goal.loop-a-init
loop-a-init c = let a = c.args in summing-none (a.x.now) (a.y.now) c.requires

pub loop-a-preserved : goal.loop-a-preserved
loop-a-preserved c =
    let a = c.args in
    let t = zip_turn a.x.now a.y.now c.loop-a.yielded c.into_iter-a-iterator.result c.loop-a.a-iterator c.next.new.self _ (cc) (cc) c.loop-a.yielded_by _ c.in-Some.is c.next.ensures.steps in
    summing-turn a.x.now a.y.now (omega (arith, t.0)) (t.2 nan) (t.3 nan) (length_push c.loop-a.yielded _) c.loop-a.invariant

pub returns : goal.returns
returns c =
    let a = c.args in
    let t = zip_end a.x.now a.y.now c.loop-a.yielded c.into_iter-a-iterator.result c.loop-a.a-iterator c.next.new.self _ (cc) (cc) c.loop-a.yielded_by c.in-None.is c.next.ensures.steps in
    summing-all a.x.now a.y.now (omega (arith, t, c.requires)) c.loop-a.invariant
