-- `ordination_pcoa::solve` meets its contract. The centred matrix goes to the front of b.
use Rattle.lists.proofs.Base.{sym, ◌∙◌, ◌*◌, arith, length-take-le, length_front}
use Rattle.ordination_pcoa.proofs.Calls.{centred-leaves}
use Rattle.ordination_pcoa.proofs.solve.Goals as goal

pub slice_bounds-centre-end : goal.slice_bounds-centre-end
slice_bounds-centre-end c = c.requires.k_in_bounds.1

pub slice_bounds-centre-end-2 : goal.slice_bounds-centre-end-2
slice_bounds-centre-end-2 c = let a = c.args in sym (length-take-le (a.n * a.n) a.b.now c.requires.k_in_bounds.1)

pub centre-requires : goal.centre-requires
centre-requires c = let a = c.args in (length-take-le (a.n * a.n) a.b.now c.requires.k_in_bounds.1, c.requires.d_len.0, c.requires.d_len.1)

pub ordinate_front-requires : goal.ordinate_front-requires
ordinate_front-requires c =
    let a = c.args in
    let long = length_front a.b.now c.centre.new.b (a.n * a.n) c.centre.auto.b in
    let d = c.requires.d_len in
    let room = c.requires.k_in_bounds in
    record { n_le_most_samples = (d.1, d.2, d.3); k_in_bounds = (room.0, omega (arith, long, room.1), room.2, room.3, room.4) }

pub shape_of-b : goal.shape_of-b
shape_of-b c =
    let a = c.args in
    c.ordinate_front.auto.b ∙ length_front a.b.now c.centre.new.b (a.n * a.n) c.centre.auto.b

pub returns : goal.returns
returns c =
    let a = c.args in
    centred-leaves a.k a.n a.d.now a.out.now a.b.now a.w.now a.m.now a.v.now c.centre.ensures
    (c.centre.auto.b ∙ length-take-le (a.n * a.n) a.b.now c.requires.k_in_bounds.1) c.requires.k_in_bounds.1
    c.ordinate_front.ensures
