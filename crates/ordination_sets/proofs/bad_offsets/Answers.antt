-- `ordination_sets::bad_offsets` meets its contract: each answer goes on with the tests that led there.
use Rattle.lists.proofs.Base.{◌∙◌, refl, ap, not, arith, eq-eqb, ne_eqb, get_or}
use Rattle.std.proofs.lemmas.List.Sorted.{non_decreasing_from_is_sorted}
use Rattle.ordination_sets.proofs.OffsetTests.{bad-number, bad-ends, sorted-never}
use Rattle.ordination_sets.proofs.bad_offsets.Goals as goal
use Rattle.ordination_sets.proofs.bad_offsets.Goals.{then-offsets-eq0-via-then-offsets-eq0, then-offsets-eq0-via-else-offsets-eq0+then-offsets-n, then-offsets-ne0, else-offsets-ne0}

pub returns-then-offsets-eq0 : goal.returns-then-offsets-eq0
returns-then-offsets-eq0 c = bad-number _ _ _ (λ e. elim c.then-offsets-eq0.branch [
  | then-offsets-eq0-via-then-offsets-eq0 w ↦ omega (arith, w.if-offsets-eq0.true)
  | then-offsets-eq0-via-else-offsets-eq0+then-offsets-n w ↦ w.if-offsets-n.true (omega arith)
])

pub returns-then-offsets-n-2 : goal.returns-then-offsets-n-2
returns-then-offsets-n-2 c =
    let a = c.args in
    bad-ends a.n a.hashes a.offsets.now (omega arith) (elim c.if-offsets-ne0.branch [
      | then-offsets-ne0 w ↦ rw (c.if-offsets-n-2.true, ne_eqb (get_or a.offsets.now 0 0) 0 w.if-offsets-ne0.true)
      | else-offsets-ne0 w ↦ rw (eq-eqb (get_or a.offsets.now 0 0) 0 w.if-offsets-ne0.false, ← w.value-is, c.if-offsets-n-2.true)
    ])

pub returns-else-offsets-n-2 : goal.returns-else-offsets-n-2
returns-else-offsets-n-2 c =
    let a = c.args in
    bad-ends a.n a.hashes a.offsets.now (omega arith) (elim c.if-offsets-ne0.branch [
      | then-offsets-ne0 w ↦ (let said = w.value-is ∙ ap not (ne_eqb (get_or a.offsets.now 0 0) 0 w.if-offsets-ne0.true) ∙ refl in cc)
      | else-offsets-ne0 w ↦ rw (eq-eqb (get_or a.offsets.now 0 0) 0 w.if-offsets-ne0.false, ← w.value-is, c.if-offsets-n-2.false)
          (sorted-never a.n a.hashes a.offsets.now (omega arith) c.is_sorted.result (non_decreasing_from_is_sorted a.offsets.now c.is_sorted.result c.is_sorted.ensures.cases))
    ])
