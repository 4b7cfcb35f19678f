-- `ordination_gram::columns::mark_hashes` meets its contract: the row has the columns of the members passed, and s the sum of their means.
use Rattle.lists.proofs.Base.{refl, sym, ◌∙◌, map, arith, length, length-map}
use Rattle.ordination_hashes.specs.inner.Columns.{column_of}
use Rattle.ordination_hashes.proofs.Lookup.{column-some, column-none}
use Rattle.ordination_gram.proofs.Marks.{marking-none, marking-in, marking-out, marking-all, column-at}
use Rattle.ordination_gram.proofs.columns.mark_hashes.Goals as goal
use Rattle.ordination_gram.proofs.columns.mark_hashes.Goals.{in-Some+then-c-columns, in-Some+else-c-columns, in_default}

pub loop-h-init : goal.loop-h-init
loop-h-init c = (refl, marking-none c.args.columns.now.means.now _ (length c.args.row.now) c.requires.1)

pub mark_bit-requires : goal.mark_bit-requires
mark_bit-requires c = omega (arith, c.requires.0, c.loop-h.invariant.0)

pub loop-h-preserved : goal.loop-h-preserved
loop-h-preserved c =
    let a = c.args in
    let k = a.columns.now in
    let columns = map (column_of k.hashes.now) a.set.now in
    let long = length-map a.set.now (column_of k.hashes.now) in
    let here = column-at k.hashes.now a.set.now c.loop-h.h-index (omega arith) in
    elim c.match-find.branch [
      | in-Some+then-c-columns w ↦ (
        c.match-find.auto.row ∙ c.loop-h.invariant.0,
        let at = column-some _ k.hashes.now (sym w.in-Some.is ∙ c.find.ensures) in
            marking-in k.means.now columns (length a.row.now) c.loop-h.invariant.1 (omega arith)
            (sym at.1 ∙ here) w.if-c-columns.true c.requires.0 (w.row-is ∙ w.mark_bit.ensures) w.s-is,
      )
      | in-Some+else-c-columns w ↦ (
        c.match-find.auto.row ∙ c.loop-h.invariant.0,
        let at = column-some _ k.hashes.now (sym w.in-Some.is ∙ c.find.ensures) in
            rw (w.row-is, w.s-is) (marking-out k.means.now columns (length a.row.now) c.loop-h.invariant.1 (omega arith)
            (sym at.1 ∙ here) (omega (arith, w.if-c-columns.false))),
      )
      | in_default w ↦ (
        c.match-find.auto.row ∙ c.loop-h.invariant.0,
        let none-here = column-none _ k.hashes.now (sym w.in_default.is ∙ c.find.ensures) in
            rw (w.row-is, w.s-is) (marking-out k.means.now columns (length a.row.now) c.loop-h.invariant.1 (omega arith)
            (sym none-here ∙ here) (omega (arith, c.requires.2))),
      )
    ]

pub returns : goal.returns
returns c =
    let a = c.args in
    let long = length-map a.set.now (column_of a.columns.now.hashes.now) in
    marking-all a.columns.now.means.now (map (column_of a.columns.now.hashes.now) a.set.now) (length a.row.now) c.loop-h.invariant.1 (omega arith)
