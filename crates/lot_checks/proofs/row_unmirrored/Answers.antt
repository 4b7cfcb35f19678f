-- `lot_checks::row_unmirrored` meets its contract. No entry passed differs from its mirror, and then the diagonal decides.
use Rattle.lists.proofs.Base.{◌≡◌, refl, sym, ap, ap₂, ◌∙◌, Bool, ◌||◌, ℕ}
use lib.Ieee.{Float, ne}
use Rattle.float.specs.Floats.{zero⁺}
use Rattle.lists.specs.{Rows.entry}
use Rattle.lists.proofs.Filters.{range-any-here, range-any-later, range-any-none}
use Rattle.lot.specs.inner.Mirror.{row_unmirrored}
use Rattle.lot_checks.proofs.row_unmirrored.Goals as goal

pub loop-j-init : goal.loop-j-init
unfolding row_unmirrored
loop-j-init c = refl

pub returns-then-cell : goal.returns-then-cell
returns-then-cell c =
    let differs-here : ℕ → Bool = λ j. let a = c.args in ne (entry a.n a.distances.now a.i j) (entry a.n a.distances.now j a.i) in
    let tested-here : ne c.cell.result c.cell-in-loop-j.result ≡ differs-here c.loop-j.j = ap₂ ne c.cell.ensures c.cell-in-loop-j.ensures in
    let or-diagonal-here : Bool → Bool = λ b. let a = c.args in b || ne (entry a.n a.distances.now a.i a.i) zero⁺ in
    sym (ap or-diagonal-here (range-any-here differs-here _ _ c.loop-j-test.true (sym tested-here ∙ c.if-cell.true))) ∙ c.loop-j.invariant

pub loop-j-preserved : goal.loop-j-preserved
loop-j-preserved c =
    let differs-here : ℕ → Bool = λ j. let a = c.args in ne (entry a.n a.distances.now a.i j) (entry a.n a.distances.now j a.i) in
    let tested-here : ne c.cell.result c.cell-in-loop-j.result ≡ differs-here c.loop-j.j = ap₂ ne c.cell.ensures c.cell-in-loop-j.ensures in
    let or-diagonal-here : Bool → Bool = λ b. let a = c.args in b || ne (entry a.n a.distances.now a.i a.i) zero⁺ in
    sym (ap or-diagonal-here (range-any-later differs-here _ _ c.loop-j-test.true (sym tested-here ∙ c.if-cell.false))) ∙ c.loop-j.invariant

pub returns : goal.returns
returns c =
    let a = c.args in
    let row : ℕ → Bool = λ j. ne (entry a.n a.distances.now a.i j) (entry a.n a.distances.now j a.i) in
    ap (λ (x : Float). ne x zero⁺) c.cell-2.ensures
    ∙ sym (ap (λ (b : Bool). b || ne (entry a.n a.distances.now a.i a.i) zero⁺) (range-any-none row _ _ c.loop-j-test.false)) ∙ c.loop-j.invariant
