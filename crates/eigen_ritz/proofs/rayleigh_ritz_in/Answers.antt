-- `eigen_ritz::rayleigh_ritz_in` meets its contract. By what Jacobi answers.
use Rattle.lists.proofs.Base.{ap, List, arith, take, drop, length-take-le, take-take, Float}
use Rattle.lists.specs.Writes.{cleared}
use Rattle.eigen_ritz.specs.{RitzVectors.ritz_vectors, Ritz.rayleigh_ritz}
use Rattle.eigen_ritz.proofs.{FoundPairs.found-refused, FoundPairs.found-answered, RitzLengths.length-combined}
use Rattle.eigen_ritz.proofs.rayleigh_ritz_in.Goals as goal

pub returns-in-Err : goal.returns-in-Err
unfolding rayleigh_ritz cleared
returns-in-Err c =
    let a = c.args in
    found-refused a.k a.n a.out.now c.requires.out_len.0 a.b _ (λ e. record { values = take a.k e.values; vectors = ritz_vectors a.n a.b a.k e.vectors a.q.now })
    c.decompose.new.pairs c.decompose.ensures c.in-Err.is (c.fill.ensures.after (λ _ e. e))

pub returns-in-Ok : goal.returns-in-Ok
unfolding rayleigh_ritz
returns-in-Ok c =
    let a = c.args in
    let pairs = c.decompose.new.pairs in
    let vectors = ritz_vectors a.n a.b a.k (drop a.b pairs) a.q.now in
    found-answered a.k a.n a.out.now c.requires.out_len.0 a.b _ (λ e. record { values = take a.k e.values; vectors = ritz_vectors a.n a.b a.k e.vectors a.q.now })
    pairs c.decompose.ensures (take a.k pairs) vectors c.in-Ok.is
    (length-take-le a.k pairs (omega (arith, c.decompose.auto.pairs))) (length-combined a.n a.b a.k (drop a.b pairs) a.q.now)
    c.turn_back.ensures (ap (λ (l : List Float). record { values = l; vectors = vectors }) (take-take a.k a.b pairs c.requires.out_len.3))
