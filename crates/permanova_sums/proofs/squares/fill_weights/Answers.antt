-- `permanova_sums::squares::fill_weights` meets its contract. After a turns the first a entries are weights.
use Rattle.lists.proofs.Base.{sym, ◌∙◌, arith, get_or}
use Rattle.lists.proofs.{Ranges.map-table, Writes.writing-none, Writes.writing-next, Writes.writing-table}
use Rattle.permanova_sums.specs.Squares.{weight_at}
use Rattle.permanova_sums.proofs.squares.fill_weights.Goals as goal

pub loop-a-init : goal.loop-a-init
loop-a-init c = writing-none (λ k. weight_at _ _ (get_or c.args.ks.now k 0)) c.args.w.now

pub offset_bounds-ks-a : goal.offset_bounds-ks-a
offset_bounds-ks-a c = omega (arith, c.loop-a.invariant.long)

pub bounds-ks-a : goal.bounds-ks-a
bounds-ks-a c = omega (arith, c.loop-a.invariant.long)

pub weight_of-requires : goal.weight_of-requires
weight_of-requires c = λ e. c.requires.1 e c.loop-a.a (omega arith)

pub offset_bounds-w-a : goal.offset_bounds-w-a
offset_bounds-w-a c = omega (arith, c.loop-a.invariant.long)

pub bounds-w-a : goal.bounds-w-a
bounds-w-a c = omega (arith, c.loop-a.invariant.long)

pub loop-a-preserved : goal.loop-a-preserved
loop-a-preserved c = writing-next (λ k. weight_at _ _ (get_or c.args.ks.now k 0)) _ c.loop-a.invariant (omega arith) c.weight_of.ensures

pub shape_of-w : goal.shape_of-w
shape_of-w c = c.loop-a.invariant.long

pub returns : goal.returns
returns c =
    let args = c.args in
    writing-table (λ k. weight_at _ _ (get_or args.ks.now k 0)) args.w.now c.loop-a.invariant c.requires.0 (omega arith) ∙ sym (map-table (weight_at _ _) args.ks.now 0)
