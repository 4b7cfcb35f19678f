-- `eigen_ritz::ritz_vectors::turn_back` meets its contract. The output is filled in two parts, each lent by itself.
use Rattle.lists.proofs.Base.{sym, ap, ap₂, ◌∙◌, List, ◌++◌, arith, length, length-drop, length-take-le, Float}
use Rattle.lists.proofs.{Rows.part-rest, Parts.length-second, Parts.put_second}
use Rattle.eigen_ritz.specs.RitzVectors.{ritz_vectors}
use Rattle.eigen_ritz.proofs.ritz_vectors.turn_back.Goals as goal

pub copy-requires : goal.copy-requires
copy-requires c = length-take-le _ _ (omega arith) ∙ sym (length-take-le c.args.k _ (omega arith))

pub combine-requires : goal.combine-requires
combine-requires c =
    let a = c.args in
    let values = c.copy in
    let many = length-take-le a.k a.out.now (omega arith) in (
      length-second _ _ values.new.row (omega arith) (values.auto.row ∙ many) ∙ omega arith,
      ap length (part-rest _ a.b) ∙ length-drop a.b a.pairs.now ∙ omega arith,
      c.requires.2,
      c.requires.3,
    )

pub returns : goal.returns
returns c =
    let a = c.args in
    let values = c.copy in
    let many = length-take-le a.k a.out.now (omega arith) in
    put_second a.k a.out.now values.new.row (omega arith) (values.auto.row ∙ many) c.combine.new.out
    ∙ ap₂ (λ (x y : List Float). x ++ y) values.ensures
    (c.combine.ensures ∙ ap (λ (v : List Float). ritz_vectors a.n a.b a.k v a.q.now) (part-rest a.pairs.now a.b))
