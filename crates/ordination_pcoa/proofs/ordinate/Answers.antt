-- `ordination_pcoa::ordinate` meets its contract. The eigenpairs have room of their own.
use Rattle.lists.proofs.Base.{sym, ◌+◌, ◌*◌, ◌≤◌, mul-le-mul, arith, length-take-le}
use Rattle.ordination_pcoa.proofs.ordinate.Goals as goal

pub overflow_mul-pairs : goal.overflow_mul-pairs
overflow_mul-pairs c = let most : c.args.k * c.args.n ≤ 16 * 256 = mul-le-mul c.requires.b_len.3 c.requires.b_len.1 in omega arith

pub overflow_add-pairs : goal.overflow_add-pairs
overflow_add-pairs c = let most : c.args.k * c.args.n ≤ 16 * 256 = mul-le-mul c.requires.b_len.3 c.requires.b_len.1 in omega arith

pub slice_bounds-pairs-end : goal.slice_bounds-pairs-end
slice_bounds-pairs-end c = let most : c.args.k * c.args.n ≤ 16 * 256 = mul-le-mul c.requires.b_len.3 c.requires.b_len.1 in omega arith

pub slice_bounds-ordinate_in-end : goal.slice_bounds-ordinate_in-end
slice_bounds-ordinate_in-end c =
    let a = c.args in
    let most : a.k * a.n ≤ 16 * 256 = mul-le-mul c.requires.b_len.3 c.requires.b_len.1 in sym (length-take-le (a.k + a.k * a.n) _ (omega arith))

pub ordinate_in-requires : goal.ordinate_in-requires
ordinate_in-requires c =
    let a = c.args in
    let most : a.k * a.n ≤ 16 * 256 = mul-le-mul c.requires.b_len.3 c.requires.b_len.1 in
    let o = c.requires.out_len in record {
      b_len = c.requires.b_len;
      out_len = (o.0, length-take-le (a.k + a.k * a.n) _ (omega arith), o.1, o.2, o.3);
    }

pub returns : goal.returns
returns c = c.ordinate_in.ensures
