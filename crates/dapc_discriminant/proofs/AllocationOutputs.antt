-- What the outputs hold at each step, and the room that the steps take.
use Rattle.lists.proofs.Base.{◌≡◌, refl, sym, ap, ap₂, ◌∙◌, Bool, true, false, List, ◌++◌, append_assoc, ℕ, ◌+◌, ◌-◌, ◌*◌, ◌≤◌, add-sub_cancel_left}
use Rattle.lists.proofs.Base.{mul-le-mul, arith, length, get_or, take, drop, replicate, length-append, length-drop, length-replicate, Float, nan, put_mid}
use lib.Seq.{length-take-le, take-add, take_at, drop_at, get_or-take}
use Rattle.float.specs.Floats.{zero⁺}
use Rattle.lists.specs.{Ranges.table, Writes.over}
use Rattle.lists.proofs.{Ranges.length-grid, Ranges.length-table, Ranges.table-ext, Ranges.table_of, Rows.part-rest}
use Rattle.lists.proofs.Writes as writes
use Rattle.lists.proofs.Parts.{over-over, over-lent, over-take}
use Rattle.outcome.specs.{Outcome.Outcome, Outcome.answered, Outcome.refused, Outcome.and_then, Slices.output}
use Rattle.dapc_cholesky.specs.Triangular.{solve_rows}
use Rattle.dapc_scores.specs.{Assigned.assigned_of, Assigned.unordered, Assigned.right_of, Scores.scores_of, Scores.centroids}
use Rattle.std.specs.Prelude.{Ok}
use Rattle.dapc_discriminant.specs.{Dapc.Scores, Dapc.axes_of, Dapc.concluded, Dapc.assign, Outputs.Called, Outputs.called, Outputs.leaves}
use Rattle.dapc_discriminant.specs.inner.Outputs.{refusal}
use Rattle.dapc_discriminant.specs.inner.Allocation.{Fitting}
use Rattle.dapc_scatter.specs.declared.samples.Samples.{Samples}
use Rattle.dapc_discriminant.proofs.Outputs.{axes-most}

-- values, and then the scores, each lent by itself
pub both-written : (axes k : ℕ) (out v s : List Float) {r t : List Float} → axes + k ≤ length out → length v ≡ axes → length s ≡ k → t ≡ v → r ≡ s
    → put_mid axes (axes + k - axes) (t ++ drop axes out) r ≡ over (v ++ s) out
both-written axes k out v s {r} {t} h many more e f = rw add-sub_cancel_left
    (writes.over-part v out (ap (λ (l : List Float). l ++ drop axes out) e ∙ over-lent v out many) many f more h)

-- ---- the scores in the output decide the groups

module _ (n p axes g : ℕ) (groups : List ℕ) (v s : List Float) where
  abbrev pub groups_found : List ℕ
  groups_found = assigned_of n axes g groups s (centroids axes g groups s)

  abbrev pub some_nan : Bool
  some_nan = unordered axes g groups s (centroids axes g groups s)

  -- the two cases of `concluded`, and what they leave
  abbrev by-test : Bool → Outcome Scores
  by-test b = elim b as (λ b. Outcome Scores) [
    | true ↦ refused 11
    | false ↦ answered (record { values = v; scores = s; assigned = groups_found; right = right_of groups groups_found })
  ]

  leaves-refused : (out : List Float) (assigned : List ℕ) → some_nan ≡ true
      → leaves n p axes (concluded n axes g groups v s) out assigned ≡ refusal 11 (over (replicate (axes + n * axes) zero⁺) out) (over (replicate n 0) assigned)
  unfolding leaves concluded output and_then
  leaves-refused out assigned e = ap (λ (b : Bool). leaves n p axes (by-test b) out assigned) e

  leaves-scored : (out : List Float) (assigned : List ℕ) → some_nan ≡ false → leaves n p axes (concluded n axes g groups v s) out assigned
      ≡ called (Ok (record { columns = p; axes = axes; right = right_of groups groups_found })) (over (v ++ s) out) (over groups_found assigned)
  unfolding leaves concluded output and_then
  leaves-scored out assigned e = ap (λ (b : Bool). leaves n p axes (by-test b) out assigned) e

  -- scores that stand in the output already
  module _ (out : List Float) (assigned : List ℕ) {cen : List Float} {found : List ℕ} {nans : Bool} (placed : cen ≡ centroids axes g groups s)
      (is : found ≡ assigned_of n axes g groups s cen) (told : nans ≡ unordered axes g groups s cen) where
    found-is : found ≡ groups_found
    found-is = is ∙ ap (assigned_of n axes g groups s) placed

    nans-are : nans ≡ some_nan
    nans-are = told ∙ ap (unordered axes g groups s) placed

    found-long : length found ≡ n
    unfolding assigned_of
    found-long = ap length is ∙ length-table _ n

    pub conclude-refused : {r : Called} → nans ≡ true → r ≡ refusal 11 (over (replicate (axes + n * axes) zero⁺) out) (over (replicate n 0) (found ++ drop n assigned))
        → r ≡ leaves n p axes (concluded n axes g groups v s) out assigned
    conclude-refused {r} t e =
        let long = length-replicate {A = ℕ} n 0 in
        e ∙ ap (refusal 11 (over (replicate (axes + n * axes) zero⁺) out))
        (ap (over (replicate n 0)) (over-lent found assigned found-long) ∙ over-over (replicate n 0) found assigned (omega (arith, found-long)))
        ∙ sym (leaves-refused out assigned (sym nans-are ∙ t))

    pub conclude-scored : {right : ℕ} → nans ≡ false → right ≡ right_of groups found → axes + n * axes ≤ length out → v ≡ take axes out → s ≡ take (n * axes) (drop axes out)
        → called (Ok (record { columns = p; axes = axes; right = right })) out (found ++ drop n assigned) ≡ leaves n p axes (concluded n axes g groups v s) out assigned
    conclude-scored {right} t count room first rest =
        let front : v ++ s ≡ take (axes + n * axes) out = ap₂ (λ (a b : List Float). a ++ b) first rest ∙ sym (take-add axes (n * axes) out) in
        let stays : out ≡ over (v ++ s) out = sym (ap (λ (l : List Float). over l out) front ∙ over-take out (axes + n * axes) room) in
        let numbers : found ++ drop n assigned ≡ over groups_found assigned = over-lent found assigned found-long ∙ ap (λ (l : List ℕ). over l assigned) found-is in
        ap (λ (k : ℕ). called (Ok (record { columns = p; axes = axes; right = k })) out (found ++ drop n assigned)) (count ∙ ap (right_of groups) found-is)
        ∙ ap₂ (called (Ok (record { columns = p; axes = axes; right = right_of groups groups_found }))) stays numbers
        ∙ sym (leaves-scored out assigned (sym nans-are ∙ t))

  -- what was written over the first part does not show
  leaves-over : (out : List Float) (assigned : List ℕ) → length (v ++ s) ≡ axes + n * axes
      → leaves n p axes (concluded n axes g groups v s) (over (v ++ s) out) assigned ≡ leaves n p axes (concluded n axes g groups v s) out assigned
  leaves-over out assigned part = by some_nan refl
    where
      by : (b : Bool) → some_nan ≡ b
          → leaves n p axes (concluded n axes g groups v s) (over (v ++ s) out) assigned ≡ leaves n p axes (concluded n axes g groups v s) out assigned
      by true e =
          let long = length-replicate (axes + n * axes) zero⁺ in
          leaves-refused (over (v ++ s) out) assigned e
          ∙ ap (λ (l : List Float). refusal 11 l (over (replicate n 0) assigned)) (over-over (replicate (axes + n * axes) zero⁺) (v ++ s) out (omega arith))
          ∙ sym (leaves-refused out assigned e)
      by false e = leaves-scored (over (v ++ s) out) assigned e
          ∙ ap (λ (l : List Float). called (Ok (record { columns = p; axes = axes; right = right_of groups groups_found })) l (over groups_found assigned))
          (over-over (v ++ s) (v ++ s) out (omega arith)) ∙ sym (leaves-scored out assigned e)

  pub concluded-over : (out : List Float) (assigned : List ℕ) {out' : List Float} {r : Called} → length v ≡ axes → length s ≡ n * axes → out' ≡ over (v ++ s) out
      → r ≡ leaves n p axes (concluded n axes g groups (take axes out') (take (n * axes) (drop axes out'))) out' assigned
      → r ≡ leaves n p axes (concluded n axes g groups v s) out assigned
  unfolding over
  concluded-over out assigned {out'} {r} many more e h =
      let tail = drop (length (v ++ s)) out in
      let values : take axes out' ≡ v = ap (take axes) e ∙ ap (take axes) (append_assoc v s tail) ∙ take_at v (s ++ tail) axes many in
      let scores : take (n * axes) (drop axes out') ≡ s =
      ap (λ (l : List Float). take (n * axes) (drop axes l)) (e ∙ append_assoc v s tail) ∙ ap (take (n * axes)) (drop_at v (s ++ tail) axes many) ∙ take_at s tail (n * axes) more in
      h ∙ ap₂ (λ (a b : List Float). leaves n p axes (concluded n axes g groups a b) out' assigned) values scores
      ∙ ap (λ (l : List Float). leaves n p axes (concluded n axes g groups v s) l assigned) e
      ∙ leaves-over out assigned (length-append v s ∙ ap₂ (λ (a b : ℕ). a + b) many more)

-- ---- from the eigenpairs

pub front-table : (k p : ℕ) (ev : List Float) → k ≤ p → p ≤ length ev → take k ev ≡ table k (λ a. get_or (take p ev) a nan)
front-table k p ev h g =
    let long : length (take k ev) ≡ k = length-take-le k ev (omega arith) in
    sym (table_of (take k ev) nan) ∙ ap (λ (m : ℕ). table m (λ a. get_or (take k ev) a nan)) long
    ∙ table-ext (λ a. get_or (take k ev) a nan) (λ a. get_or (take p ev) a nan) k (λ a z. get_or-take k ev a nan z ∙ sym (get_or-take p ev a nan (omega arith)))

pub length-scores : (n columns p axes : ℕ) (x mean vs : List Float) → length (scores_of n columns p axes x mean vs) ≡ n * axes
unfolding scores_of
length-scores n columns p axes x mean vs = length-grid n axes _

pub located : (n columns p axes g : ℕ) (x : List Float) (groups : List ℕ) (mean l ev : List Float) (out : List Float) (assigned : List ℕ) {vs out' : List Float} {r : Called}
    → axes ≡ axes_of g p → axes ≤ p → p ≤ length ev → vs ≡ solve_rows axes p l (drop p ev) → out' ≡ over (take axes ev ++ scores_of n columns p axes x mean vs) out
    → r ≡ leaves n p axes (concluded n axes g groups (take axes out') (take (n * axes) (drop axes out'))) out' assigned
    → r ≡ leaves n p axes (assign n columns p g x groups mean l (take p ev) (drop p ev)) out assigned
unfolding assign
located n columns p axes g x groups mean l ev out assigned {vs} {out'} {r} e h room solved written done =
    concluded-over n p axes g groups (take axes ev) (scores_of n columns p axes x mean vs) out assigned (length-take-le axes ev (omega arith)) (length-scores n columns p axes x mean vs) written done
    ∙ ap₂ (λ (v w : List Float). leaves n p axes (concluded n axes g groups v (scores_of n columns p axes x mean w)) out assigned) (front-table axes p ev h room) solved
    ∙ ap (λ (k : ℕ). leaves n p axes (concluded n k g groups (table k (λ a. get_or (take p ev) a nan)) (scores_of n columns p k x mean (solve_rows k p l (drop p ev)))) out assigned) e

-- ---- parts as the check has them

-- the scores: the part `&out[axes..axes + k]`
pub part-scores : (axes k : ℕ) (out : List Float) → take (axes + k - axes) (drop axes out) ≡ take k (drop axes out)
part-scores axes k out = rw add-sub_cancel_left

pub length-part-scores : (axes k : ℕ) (out : List Float) → axes + k ≤ length out → length (take (axes + k - axes) (drop axes out)) ≡ k
length-part-scores axes k out h = ap length (part-scores axes k out) ∙ length-take-le k (drop axes out) (omega (arith, length-drop axes out))

-- the vectors: the part `&ev[p..]`
pub length-vectors : (p k : ℕ) (ev : List Float) → length ev ≡ p + k → length (take (length ev - p) (drop p ev)) ≡ k
length-vectors p k ev e = ap length (part-rest ev p) ∙ length-drop p ev ∙ omega arith

-- ---- room

module _ {s : Samples} {out assigned : ℕ} (f : Fitting s out assigned) where
  pub axes-few : s.sizes.axes ≤ s.sizes.lead
  axes-few = axes-most s.sizes.axes s.sizes.groups s.sizes.lead f.axial

  narrow : s.sizes.axes ≤ 16
  narrow = omega (arith, axes-few, s.narrow)

  pub directions-fit : s.sizes.axes * s.sizes.lead ≤ 256
  directions-fit = omega (arith, mul-le-mul {n₁ = s.sizes.axes} {m₁ = s.sizes.lead} {n₂ = 16} {m₂ = 16} narrow s.narrow)

  pub centroids-fit : s.sizes.groups * s.sizes.axes ≤ 2048
  centroids-fit = omega (arith, mul-le-mul {n₁ = s.sizes.groups} {m₁ = s.sizes.axes} {n₂ = 128} {m₂ = 16} s.most narrow)
