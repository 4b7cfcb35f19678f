-- The ridge, worked out and added.
use Rattle.lists.proofs.Base.{◌≡◌, ap, ◌∙◌, cond, List, ℕ, eqb, Float}
use Rattle.float.specs.{Floats.◌⊕◌, Floats.◌⊗◌, Floats.◌⊘◌, Floats.num, Floats.1e-8, Floats.1e-12, Order.larger}
use Rattle.lists.specs.{Ranges.grid, Rows.entry}
use Rattle.eigen_matrix.specs.Trace.{trace}
use Rattle.dapc_scatter.specs.Ridge.{ridge, ridged}

pub ridged-is : (p : ℕ) (sw : List Float) {m : List Float} {t l : Float} → t ≡ trace p sw → l ≡ larger t 1e-12
    → m ≡ grid p p (λ a b. cond (eqb a b) (entry p sw a b ⊕ 1e-8 ⊗ l ⊘ num p) (entry p sw a b)) → m ≡ ridged p sw
unfolding ridged ridge
ridged-is p sw traced most is =
    let f : Float → List Float = λ r. grid p p (λ a b. cond (eqb a b) (entry p sw a b ⊕ r) (entry p sw a b)) in
    is ∙ ap (λ (l : Float). f (1e-8 ⊗ l ⊘ num p)) (most ∙ ap (λ (t : Float). larger t 1e-12) traced)
