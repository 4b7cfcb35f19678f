-- `ordination_coordinates::finish_in` meets its contract. The output is filled in two parts, each lent by itself.
use Rattle.lists.proofs.Base.{◌≡◌, sym, ap, ◌∙◌, ◌+◌, arith, length, take, length-drop, length-take-le}
use Rattle.lists.proofs.{Rows.part-rest, Parts.length-second, Parts.put_second}
use Rattle.ordination_coordinates.specs.Finish.{finish, laid}
use Rattle.ordination_coordinates.proofs.OutputParts.{finished}
use Rattle.ordination_coordinates.proofs.finish_in.Goals as goal

pub slice_bounds-describe-end-2 : goal.slice_bounds-describe-end-2
slice_bounds-describe-end-2 c =
    let front_long-here : length (take (c.args.k + c.args.k) c.args.out.now) ≡ c.args.k + c.args.k = length-take-le (c.args.k + c.args.k) c.args.out.now (omega arith) in
    sym front_long-here

pub slice_bounds-describe-end-3 : goal.slice_bounds-describe-end-3
slice_bounds-describe-end-3 c =
    let values-long-here : length (take c.args.k c.args.pairs.now) ≡ c.args.k = length-take-le c.args.k c.args.pairs.now (omega arith) in
    sym values-long-here

pub describe-requires : goal.describe-requires
describe-requires c =
    let front_long-here : length (take (c.args.k + c.args.k) c.args.out.now) ≡ c.args.k + c.args.k = length-take-le (c.args.k + c.args.k) c.args.out.now (omega arith) in
    let values-long-here : length (take c.args.k c.args.pairs.now) ≡ c.args.k = length-take-le c.args.k c.args.pairs.now (omega arith) in
    front_long-here ∙ omega (arith, values-long-here)

pub slice_bounds-scale_vectors-end-2 : goal.slice_bounds-scale_vectors-end-2
slice_bounds-scale_vectors-end-2 c =
    let values-long-here : length (take c.args.k c.args.pairs.now) ≡ c.args.k = length-take-le c.args.k c.args.pairs.now (omega arith) in
    sym values-long-here

pub scale_vectors-requires : goal.scale_vectors-requires
scale_vectors-requires c =
    let front_long-here : length (take (c.args.k + c.args.k) c.args.out.now) ≡ c.args.k + c.args.k = length-take-le (c.args.k + c.args.k) c.args.out.now (omega arith) in
    let values-long-here : length (take c.args.k c.args.pairs.now) ≡ c.args.k = length-take-le c.args.k c.args.pairs.now (omega arith) in
    let k = c.args.k in (
      length-second (k + k) c.args.out.now c.describe.new.out (omega arith) (c.describe.auto.out ∙ front_long-here) ∙ omega arith,
      c.requires.1,
      c.requires.2,
      values-long-here,
      ap length (part-rest c.args.pairs.now k) ∙ length-drop k c.args.pairs.now ∙ omega arith,
    )

pub returns : goal.returns
unfolding finish laid
returns c =
    let front_long-here : length (take (c.args.k + c.args.k) c.args.out.now) ≡ c.args.k + c.args.k = length-take-le (c.args.k + c.args.k) c.args.out.now (omega arith) in
    let k = c.args.k in
    put_second (k + k) c.args.out.now c.describe.new.out (omega arith) (c.describe.auto.out ∙ front_long-here) c.scale_vectors.new.out
    ∙ finished c.args.n k c.args.total c.args.pairs.now (omega arith) c.describe.ensures c.scale_vectors.ensures
