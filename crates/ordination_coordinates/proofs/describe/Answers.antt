-- `ordination_coordinates::describe` meets its contract. The output is filled in two parts, each lent by itself.
use Rattle.lists.proofs.Base.{sym, ap₂, ◌∙◌, List, ◌++◌, arith, length, length-take-le, Float}
use Rattle.lists.proofs.Parts.{length-second, put_second}
use Rattle.ordination_coordinates.proofs.describe.Goals as goal

pub slice_bounds-copy_from_slice-end-2 : goal.slice_bounds-copy_from_slice-end-2
slice_bounds-copy_from_slice-end-2 c = sym (length-take-le (length c.args.values.now) c.args.out.now (omega arith))

pub copy_from_slice-requires : goal.copy_from_slice-requires
copy_from_slice-requires c = length-take-le (length c.args.values.now) c.args.out.now (omega arith)

pub fill_shares-requires : goal.fill_shares-requires
fill_shares-requires c =
    let k = length c.args.values.now in
    let out = c.args.out.now in
    length-second k out c.copy_from_slice.new.self (omega arith) (c.copy_from_slice.ensures.len ∙ length-take-le k out (omega arith)) ∙ omega arith

pub returns : goal.returns
returns c =
    let k = length c.args.values.now in
    let out = c.args.out.now in
    put_second k out c.copy_from_slice.new.self (omega arith) (c.copy_from_slice.ensures.len ∙ length-take-le k out (omega arith)) c.fill_shares.new.out
    ∙ ap₂ (λ (x y : List Float). x ++ y) c.copy_from_slice.ensures.after c.fill_shares.ensures
