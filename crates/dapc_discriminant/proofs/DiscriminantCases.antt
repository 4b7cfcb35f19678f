-- By the pivots, by the eigenpairs, and from the coordinates; the room of a matrix.
use Rattle.lists.proofs.Base.{◌≡◌, sym, ap, ap₂, ◌∙◌, Bool, true, false, cond, List, ℕ, ◌+◌, ◌*◌, ◌≤◌, mul-le-mul, arith, take, drop, replicate, Float}
use Rattle.float.specs.Floats.{zero⁺}
use Rattle.lists.specs.Writes.{over}
use Rattle.outcome.specs.{Outcome.Told, Outcome.passed, Outcome.Outcome, Outcome.answered, Outcome.refused, Outcome.and_then, Slices.output}
use Rattle.dapc_scatter.specs.Means.{mean_of}
use Rattle.dapc_scatter.specs.declared.samples.Dimensions.{Dimensions}
use Rattle.dapc_scatter.specs.inner.Moments.{Filled}
use Rattle.dapc_cholesky.specs.{Whitened.whitened, Cholesky.factor, Cholesky.pivot_fails}
use Rattle.eigen_jacobi.specs.Eigen.{Eigen, jacobi}
use Rattle.eigen_jacobi.proofs.Calls.{only-unordered}
use Rattle.dapc_discriminant.specs.{Dapc.Scores, Dapc.assign, Dapc.separated, Dapc.discriminate, Outputs.Called, Outputs.leaves}
use Rattle.dapc_discriminant.specs.inner.Outputs.{refusal}
use Rattle.dapc_discriminant.proofs.Outputs.{told-yes, told-no}

module _ (n : ℕ) (d : Dimensions) (x : List Float) (groups : List ℕ) (mean a sb : List Float) (out : List Float) (assigned : List ℕ) {l : List Float}
    (factored : l ≡ factor d.lead a) where
  -- what a call leaves by what is found, and what is found by the steps of `separated`
  abbrev left : Outcome Scores → Called
  left o = leaves n d.lead d.axes o out assigned

  abbrev solution : List Float → Outcome Eigen
  solution f = jacobi d.lead (whitened d.lead f sb)

  abbrev placed : List Float → List Float → List Float → Outcome Scores
  placed f values vectors = assign n d.columns d.lead d.groups x groups mean f values vectors

  abbrev rest : List Float → Outcome Scores
  rest f = and_then (solution f) (λ e. placed f e.values e.vectors)

  abbrev by-pivot : List Float → Bool → Outcome Scores
  by-pivot f b = elim b as (λ b. Outcome Scores) [ true ↦ refused 10 | false ↦ rest f ]

  abbrev all : Outcome Scores
  all = separated n d.columns d.lead d.groups x groups mean a sb

  -- what is told of the pivots
  abbrev pivots : Told
  pivots = cond (pivot_fails d.lead a (factor d.lead a)) (refused 10) passed

  -- outputs whose first part is cleared
  abbrev cleared : ℕ → Called
  cleared k = refusal k (over (replicate (d.axes + n * d.axes) zero⁺) out) (over (replicate n 0) assigned)

  -- the two cases of the pivots
  pub pivot-fails : {r : Called} {k : ℕ} → refused k ≡ pivots → r ≡ cleared k → r ≡ left all
  unfolding separated leaves output and_then
  pivot-fails {r} {k} t e =
      let told = told-yes {A = Unit} 10 tt (pivot_fails d.lead a (factor d.lead a)) t in
      e ∙ ap cleared told.1 ∙ ap (λ (b : Bool). left (by-pivot (factor d.lead a) b)) (sym told.0)

  passes : passed ≡ pivots → all ≡ rest l
  unfolding separated
  passes t =
      let told = told-no {A = Unit} 10 tt (pivot_fails d.lead a (factor d.lead a)) t in
      ap (by-pivot (factor d.lead a)) told.0 ∙ ap rest (sym factored)

  -- the two cases of the eigenpairs
  module _ (t : passed ≡ pivots) where
    pub eigen-refuses : {r : Called} {k : ℕ} → refused k ≡ solution l → r ≡ cleared k → r ≡ left all
    unfolding leaves output and_then
    eigen-refuses {r} {k} found e =
        let nan : k ≡ 11 = only-unordered d.lead (whitened d.lead l sb) k found in
        e ∙ ap cleared nan ∙ ap (λ (o : Outcome Eigen). left (and_then o (λ e. placed l e.values e.vectors))) (ap (λ (j : ℕ). refused j) (sym nan) ∙ found) ∙ ap left (sym (passes t))

    -- the eigenpairs stand at the front of their room
    pub eigen-answers : {r : Called} {k : ℕ} (ev : List Float) {ev' : List Float} → answered (record { values = take d.lead ev; vectors = drop d.lead ev; sweeps = k }) ≡ solution l
        → ev' ≡ ev → r ≡ left (placed l (take d.lead ev') (drop d.lead ev')) → r ≡ left all
    unfolding and_then
    eigen-answers ev found same e =
        e ∙ ap (λ (v : List Float). left (placed l (take d.lead v) (drop d.lead v))) same
        ∙ ap (λ (o : Outcome Eigen). left (and_then o (λ e. placed l e.values e.vectors))) found ∙ ap left (sym (passes t))

-- from means and scatter, which stand at the front of their room
pub separated-is : (n : ℕ) (d : Dimensions) (x : List Float) (groups : List ℕ) (out : List Float) (assigned : List ℕ)
    {mean sw sb mean' sw' sb' : List Float} {counts : List ℕ} {r : Called} → Filled d x groups mean counts sw sb → mean' ≡ mean → sw' ≡ sw → sb' ≡ sb
    → r ≡ leaves n d.lead d.axes (separated n d.columns d.lead d.groups x groups mean' sw' sb') out assigned
    → r ≡ leaves n d.lead d.axes (discriminate n d.columns d.lead x groups d.groups) out assigned
unfolding discriminate
separated-is n d x groups out assigned {sw' = sw'} {sb' = sb'} f means within between e =
    let step : List Float → List Float → List Float → Called = λ m a b. leaves n d.lead d.axes (separated n d.columns d.lead d.groups x groups m a b) out assigned in
    e ∙ ap (λ (m : List Float). step m sw' sb') (means ∙ f.means) ∙ ap₂ (step (mean_of d.columns d.lead x groups)) (within ∙ f.within) (between ∙ f.between)

-- a matrix of p columns fits its room
pub square-fits : (p : ℕ) → p ≤ 16 → p * p ≤ 256
square-fits p h = omega (arith, mul-le-mul {n₁ = p} {m₁ = p} {n₂ = 16} {m₂ = 16} h h)
