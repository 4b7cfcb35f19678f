-- `eigen_jacobi::eigen` meets its contract. By whether a NaN stands on the diagonal.
use Rattle.lists.proofs.Base.{sym, ap, ◌∙◌, ℕ, arith, replicate, length-take-le, length_front}
use Rattle.float.specs.Floats.{zero⁺}
use Rattle.lists.specs.Writes.{cleared}
use Rattle.eigen_jacobi.proofs.Calls.{solved-unordered, solved-ordered}
use Rattle.eigen_jacobi.proofs.eigen.Goals as goal

pub slice_bounds-diagonalise-end-2 : goal.slice_bounds-diagonalise-end-2
slice_bounds-diagonalise-end-2 c =
    let a = c.args in
    sym (length-take-le a.n a.out.now (omega arith))

pub diagonalise-made-requires : goal.diagonalise-made-requires
diagonalise-made-requires c =
    let a = c.args in
    let h = c.requires in (h.a_len.2, h.a_len.3, h.row_len.0, length-take-le a.n a.out.now (omega arith), h.a_len.0)

pub returns-then-has_nan : goal.returns-then-has_nan
unfolding cleared
returns-then-has_nan c =
    let a = c.args in
    let done = c.diagonalise-made in
    let long = length_front a.out.now done.new.y a.n done.auto.y in
    solved-unordered a.n a.a.now done.ensures.0 done.ensures.1 a.out.now c.requires.a_len.1
    (sym c.has_nan.ensures ∙ c.if-has_nan.true) (c.fill.ensures.after (λ _ e. e) ∙ ap (λ (k : ℕ). replicate k zero⁺) long)

pub returns : goal.returns
returns c =
    let a = c.args in
    let done = c.diagonalise-made in
    solved-ordered a.n a.a.now done.ensures.0 done.ensures.1 a.out.now c.requires.a_len.1
    (done.auto.x ∙ c.requires.row_len.0) (done.auto.v ∙ c.requires.a_len.3) (sym c.has_nan.ensures ∙ c.if-has_nan.false) c.arrange.ensures
