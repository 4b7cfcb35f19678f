-- Coordinates in a lent slice are those of the ordination, and there are as many as there should be.
use Rattle.lists.proofs.Base.{◌≡◌, refl, sym, ap, subst, ◌∙◌, false, List, ◌++◌, ℕ, ◌+◌, ◌-◌, ◌*◌, ◌≤◌, min-le_left}
use Rattle.lists.proofs.Base.{min-le_right, mul-le-mul, arith, length, take, drop, length-drop, Float}
use lib.Seq.{length-take-le, drop-append-le, take_at}
use Rattle.std.specs.Prelude.{Result, Ok, Err}
use Rattle.outcome.specs.declared.Refusal.{Refusal}
use Rattle.outcome.specs.{Outcome.Outcome, Outcome.answered, Outcome.refused, Slices.untouched}
use Rattle.ordination_coordinates.specs.{Finish.Coordinates, Centred.centred, Pcoa.ordinate, Pcoa.pcoa}
use Rattle.ordination_pcoa.specs.inner.Given.{Given, given, gives, coordinates_of}
use Rattle.ordination_pcoa.proofs.{LateRefusals.Late, Calls.late-pcoa, Calls.ordinate-min}
use Rattle.exhaustive_hits.specs.Assignments.{columns_of}
use Rattle.exhaustive_answer.specs.inner.Ordination.{coords_in, coords_told, coords_of}

-- ---- how many columns there are

pub columns-few : (n : ℕ) {k : ℕ} → k ≡ columns_of n → (k ≤ n) × (k ≤ 8) × (k + k + n * k ≤ 16 + 8 * n)
columns-few n {k} e =
    let most : k ≤ 8 = omega (arith, min-le_left 8 n) in
    (omega (arith, min-le_right 8 n), most, omega (arith, mul-le-mul {n₁ = n} {m₁ = k} {n₂ = n} {m₂ = 8} (omega arith) most))

pub length-coords : (n : ℕ) (coords : List Float) → 16 + 8 * n ≤ length coords → length (coords_in n coords) ≡ n * columns_of n
length-coords n coords h =
    let k = columns_of n in length-take-le (n * k) (drop (k + k) coords) (omega (arith, length-drop (k + k) coords, (columns-few n {k = k} refl).2))

-- the part of the slice that is lent
pub part-coords : (n : ℕ) {k : ℕ} (coords : List Float) → k ≡ columns_of n → take (k + k + n * k - (k + k)) (drop (k + k) coords) ≡ coords_in n coords
part-coords n {k} coords e = ap (λ (m : ℕ). take m (drop (k + k) coords)) (let e : k + k + n * k - (k + k) ≡ n * k = omega arith in e)
    ∙ ap (λ (k : ℕ). take (n * k) (drop (k + k) coords)) e

-- ---- what is told

abbrev coords_at : ℕ → ℕ → List Float → List Float
coords_at n k l = take (n * k) (drop (k + k) l)

-- entries from k + k on of a front of k + k + n * k, put back
coords-lent : (n k : ℕ) (out rest : List Float) → length out ≡ k + k + n * k → coords_at n k (out ++ rest) ≡ drop (k + k) out
coords-lent n k out rest e =
    let long : length (drop (k + k) out) ≡ n * k = omega (arith, length-drop (k + k) out) in
    ap (take (n * k)) (drop-append-le (k + k) out rest (omega arith)) ∙ take_at (drop (k + k) out) rest (n * k) long

told-by : (n : ℕ) {k : ℕ} (r : Result Unit Refusal) (out rest : List Float) → k ≡ columns_of n → length out ≡ k + k + n * k → coords_told n r (out ++ rest) ≡ coords_of (coordinates_of k r out)
unfolding coords_of
told-by n {k} (Ok _) out rest ek e = ap answered (ap (λ (k : ℕ). coords_at n k (out ++ rest)) (sym ek) ∙ coords-lent n k out rest e)
told-by n (Err r) out rest ek e = refl

-- components above n mean n
pcoa-min : (n : ℕ) (d : List Float) {k : ℕ} → k ≡ columns_of n → pcoa k n d ≡ pcoa 8 n d
unfolding pcoa
pcoa-min n d e = ap (λ (k : ℕ). ordinate k n (centred n d)) e ∙ ordinate-min 8 n (centred n d)

pub told_is : (n : ℕ) {k : ℕ} (d : List Float) (r : Result Unit Refusal) (out old rest : List Float) → k ≡ columns_of n → length out ≡ k + k + n * k → given k r out ≡ gives k n (pcoa k n d) old
    → coords_told n r (out ++ rest) ≡ coords_of (pcoa 8 n d)
unfolding gives
told_is n d r out old rest ek e h = told-by n r out rest ek e ∙ ap (λ (g : Given). coords_of g.found) h ∙ ap coords_of (pcoa-min n d ek)

-- ---- a refusal of the ordination does not leave slices untouched

late-coords : (o : Outcome Coordinates) → Late o → Late (coords_of o)
unfolding coords_of
late-coords (answered c) h = tt
late-coords (refused r) h = h

pub late-told : (n : ℕ) (d : List Float) {r : ℕ} → refused r ≡ coords_of (pcoa 8 n d) → untouched r ≡ false
late-told n d is = subst (λ (o : Outcome (List Float)). Late o) (sym is) (late-coords (pcoa 8 n d) (late-pcoa 8 n d))
