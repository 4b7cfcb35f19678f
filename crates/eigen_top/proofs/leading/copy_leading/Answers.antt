-- `eigen_top::leading::copy_leading` meets its contract. The output is filled in two parts, each lent by itself.
use Rattle.lists.proofs.Base.{sym, ap, ap₂, ◌∙◌, List, ◌++◌, arith, length, length-take-le, Float}
use Rattle.lists.proofs.Parts.{length-second, put_second}
use Rattle.eigen_top.proofs.LeadingFronts.{leading-part, length-leading}
use Rattle.eigen_top.proofs.leading.copy_leading.Goals as goal

pub copy-requires : goal.copy-requires
copy-requires c = length-take-le _ _ (omega arith) ∙ sym (length-take-le c.args.k _ (omega arith))

pub copy-requires-2 : goal.copy-requires-2
copy-requires-2 c =
    let a = c.args in
    let values = c.copy in
    let many = length-take-le a.k a.out.now (omega arith) in
    length-second _ _ values.new.row (omega arith) (values.auto.row ∙ many)
    ∙ omega (arith, ap length (leading-part a.n a.k a.pairs.now) ∙ length-leading a.n a.k a.pairs.now c.requires.1 c.requires.2)

pub returns : goal.returns
returns c =
    let a = c.args in
    let values = c.copy in
    let many = length-take-le a.k a.out.now (omega arith) in
    put_second _ _ values.new.row (omega arith) (values.auto.row ∙ many) _
    ∙ ap₂ (λ (x y : List Float). x ++ y) values.ensures (c.copy-2.ensures ∙ leading-part a.n a.k a.pairs.now)
