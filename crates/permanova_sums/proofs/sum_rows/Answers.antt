-- `permanova_sums::sum_rows` meets its contract. In each row the entries still to come, added to its sum, are always the whole sum.
use Rattle.lists.proofs.Base.{refl, arith, ◌∙◌, ap, length}
use Rattle.std.proofs.lemmas.List.{length_push}
use Rattle.std.proofs.lemmas.Slice.Zip.{zip_turn, zip_end}
use Rattle.lists.specs.{Rows.entry}
use Rattle.lists.proofs.Sums.{list-turn, list-end}
use Rattle.permanova_sums.proofs.sum_rows.Goals as goal

pub loop-x-init : goal.loop-x-init
loop-x-init c = (refl, refl)

pub cell-v-requires : goal.cell-v-requires
cell-v-requires c =
    let a = c.args in
    let t = zip_turn a.p.now a.q.now c.loop-x.yielded c.into_iter-x-iterator.result c.loop-x.x-iterator c.next.new.self _ (cc) (cc) c.loop-x.yielded_by _ c.in-Some.is c.next.ensures.steps in
    (c.requires.0, c.requires.4, omega (arith, t.2 0, c.requires.1 (length c.loop-x.yielded) t.0))

pub cell-w-requires : goal.cell-w-requires
cell-w-requires c =
    let a = c.args in
    let t = zip_turn a.p.now a.q.now c.loop-x.yielded c.into_iter-x-iterator.result c.loop-x.x-iterator c.next.new.self _ (cc) (cc) c.loop-x.yielded_by _ c.in-Some.is c.next.ensures.steps in
    (c.requires.0, c.requires.5, omega (arith, t.3 0, c.requires.2 (length c.loop-x.yielded) t.1))

pub loop-x-preserved : goal.loop-x-preserved
loop-x-preserved c =
    let a = c.args in
    let t = zip_turn a.p.now a.q.now c.loop-x.yielded c.into_iter-x-iterator.result c.loop-x.x-iterator c.next.new.self _ (cc) (cc) c.loop-x.yielded_by _ c.in-Some.is c.next.ensures.steps in
    let n = length c.loop-x.yielded in
    let more = length_push c.loop-x.yielded (c.in-Some.x, c.in-Some.y) in
    rw more (
      list-turn (entry a.m a.t.now a.a) _ a.p.now n 0 t.0 (c.cell-v.ensures ∙ ap (entry a.m a.t.now a.a) (t.2 0)) refl c.loop-x.invariant.0,
      list-turn (entry a.m a.t.now a.b) _ a.q.now n 0 t.1 (c.cell-w.ensures ∙ ap (entry a.m a.t.now a.b) (t.3 0)) refl c.loop-x.invariant.1,
    )

pub returns : goal.returns
returns c =
    let a = c.args in
    let t = zip_end a.p.now a.q.now c.loop-x.yielded c.into_iter-x-iterator.result c.loop-x.x-iterator c.next.new.self _ (cc) (cc) c.loop-x.yielded_by c.in-None.is c.next.ensures.steps in
    let n = length c.loop-x.yielded in (
      list-end (entry _ _ _) _ a.p.now n (omega (arith, t, c.requires.3)) c.loop-x.invariant.0,
      list-end (entry _ _ _) _ a.q.now n (omega (arith, t, c.requires.3)) c.loop-x.invariant.1,
    )
