-- `eigen_jacobi::solve` meets its contract. The first parts are lent to `eigen`, and come back to the longer slices.
use Rattle.lists.proofs.Base.{ap, ◌∙◌, ℕ, ◌+◌, ◌*◌, arith, replicate, length-take-le, length_front}
use Rattle.float.specs.Floats.{zero⁺}
use Rattle.lists.specs.Writes.{cleared}
use Rattle.eigen_jacobi.proofs.Calls.{solved-leaves}
use Rattle.eigen_jacobi.proofs.solve.Goals as goal

pub eigen_within-r-requires : goal.eigen_within-r-requires
eigen_within-r-requires c =
    let a = c.args in
    let p = c.requires in
    let k = a.n * a.n in record {
      a_len = (p.0, length-take-le (a.n + k) a.out.now p.1, length-take-le k a.m.now p.2, length-take-le k a.v.now p.3);
      n_in_bounds = (p.4, omega arith);
    }

pub returns : goal.returns
unfolding cleared
returns c =
    let a = c.args in
    let n = a.n in
    let done = c.eigen_within-r in
    let m-long = length_front a.m.now done.new.m (n * n) done.auto.m in
    let v-long = length_front a.v.now done.new.v (n * n) done.auto.v in
    solved-leaves n a.a.now a.out.now a.m.now a.v.now done.result done.ensures
    (done.auto.out ∙ length-take-le (n + n * n) a.out.now c.requires.1)
    (c.fill.ensures.after (λ _ e. e) ∙ ap (λ (k : ℕ). replicate k zero⁺) m-long) (c.fill-2.ensures.after (λ _ e. e) ∙ ap (λ (k : ℕ). replicate k zero⁺) v-long)
