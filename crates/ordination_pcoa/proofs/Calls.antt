-- What a call leaves in everything lent.
use Rattle.lists.proofs.Base.{◌≡◌, refl, sym, ap, ◌∙◌, true, List, ◌++◌, ℕ, ◌+◌, ◌*◌, ◌≤◌, min, arith, length, take, drop, replicate, length-append, length-drop, take_at, Float}
use Rattle.float.specs.Floats.{zero⁺}
use Rattle.lists.specs.{Filters.all, Writes.cleared}
use Rattle.std.specs.Prelude.{Result, Ok, Err}
use Rattle.outcome.specs.declared.Refusal.{Refusal}
use Rattle.outcome.specs.Refusals.{first}
use Rattle.outcome.specs.Outcome.{Outcome, Told, answered, refused, passed, judged, and_then, told_of}
use Rattle.outcome.specs.{Numbers.told, Slices.untouched, Slices.output, Slices.work}
use Rattle.outcome.proofs.Table.{first-untouched}
use Rattle.eigen_jacobi.proofs.OutputFronts.{output-front}
use Rattle.eigen_top.specs.TopEigs.{top_eigs}
use Rattle.eigen_top.proofs.TopPairs.{top-min}
use Rattle.ordination_coordinates.specs.{Finish.Coordinates, Finish.finish, Finish.laid, Centred.centred, Pcoa.ordinate, Pcoa.pcoa, Lines.pcoa_lines}
use Rattle.eigen_matrix.specs.Trace.{trace}
use Rattle.ordination_pcoa.specs.{Given.written, Call.Called, Call.called, Call.leaves, Call.pcoa_call}
use Rattle.ordination_pcoa.specs.inner.Given.{coordinates_of, Given, given, gives}
use Rattle.ordination_pcoa.proofs.LateRefusals.{Late, late-then, late-top, late-work}

check-read : (k : ℕ) (r : Result Unit Refusal) (out : List Float) → told r ≡ told_of (coordinates_of k r out)
check-read k (Ok _) out = refl
check-read k (Err r) out = refl

-- ---- slices that may be longer, with the work cleared

module _ (k n : ℕ) (o : Outcome Coordinates) (late : Late o) (out b w m v : List Float) where
  pub given-leaves : (r : Result Unit Refusal) {new b' w' m' v' : List Float} → given k r new ≡ gives k n o (take (k + k + n * k) out) → length new ≡ k + k + n * k
      → b' ≡ cleared zero⁺ b → w' ≡ cleared zero⁺ w → m' ≡ cleared zero⁺ m → v' ≡ cleared zero⁺ v
      → called r (new ++ drop (k + k + n * k) out) b' w' m' v' ≡ leaves k n o out b w m v
  unfolding gives leaves written
  given-leaves r {new} {b'} {w'} {m'} {v'} e many hb hw hm hv =
      let answer : told r ≡ told_of o = check-read k r new ∙ ap (λ (g : Given). told_of g.found) e in
      let first : new ++ drop (k + k + n * k) out ≡ written k n o out = output-front laid (k + k + n * k) o out many (ap (λ (g : Given). g.out) e) in
      let b-is = hb ∙ late-work zero⁺ o b late in
      let w-is = hw ∙ late-work zero⁺ o w late in
      let m-is = hm ∙ late-work zero⁺ o m late in
      let v-is = hv ∙ late-work zero⁺ o v late in λ i. record { answer = answer i; out = first i; b = b-is i; w = w-is i; m = m-is i; v = v-is i }

-- what a work slice held does not show, only its length
pub work-same : (o : Outcome Coordinates) (late : Late o) (b' b : List Float) → length b' ≡ length b → work zero⁺ o b' ≡ work zero⁺ o b
unfolding cleared
work-same o late b' b e = sym (late-work zero⁺ o b' late) ∙ ap (λ (j : ℕ). replicate j zero⁺) e ∙ late-work zero⁺ o b late

pub leaves-same : (k n : ℕ) (o : Outcome Coordinates) (late : Late o) (out b' b w m v : List Float) {c : Called} → length b' ≡ length b
    → c ≡ leaves k n o out b' w m v → c ≡ leaves k n o out b w m v
unfolding leaves
leaves-same k n o late out b' b w m v e h =
    h ∙ ap (λ (l : List Float). record { answer = told_of o; out = written k n o out; b = l; w = work zero⁺ o w; m = work zero⁺ o m; v = work zero⁺ o v }) (work-same o late b' b e)

pub late-ordinate : (k n : ℕ) (b : List Float) → Late (ordinate k n b)
unfolding ordinate
late-ordinate k n b = late-then (top_eigs k n b) (λ p. finish n (trace n b) p.values p.vectors) (late-top k n b)

pub late-pcoa : (k n : ℕ) (d : List Float) → Late (pcoa k n d)
unfolding pcoa
late-pcoa k n d = late-ordinate k n (centred n d)

-- the centred matrix stands in front of b
pub centred-leaves : (k n : ℕ) (d out b w m v : List Float) {new : List Float} {c : Called} → new ≡ centred n d → length new ≡ n * n → n * n ≤ length b
    → c ≡ leaves k n (ordinate k n (take (n * n) (new ++ drop (n * n) b))) out (new ++ drop (n * n) b) w m v → c ≡ leaves k n (pcoa k n d) out b w m v
unfolding pcoa
centred-leaves k n d out b w m v {new} {c} e many room h =
    let b' = new ++ drop (n * n) b in
    let front : take (n * n) b' ≡ centred n d = take_at new (drop (n * n) b) (n * n) many ∙ e in
    let long : length b' ≡ length b = length-append new (drop (n * n) b) ∙ omega (arith, length-drop (n * n) b) in
    leaves-same k n (pcoa k n d) (late-pcoa k n d) out b' b w m v long (h ∙ ap (λ (l : List Float). leaves k n (ordinate k n l) out b' w m v) front)

-- components above n mean n
pub ordinate-min : (components n : ℕ) (b : List Float) → ordinate (min components n) n b ≡ ordinate components n b
unfolding ordinate
ordinate-min components n b = ap (λ o. and_then o (λ p. answered (finish n (trace n b) p.values p.vectors))) (top-min components n b)

pcoa-min : (components n : ℕ) (d : List Float) → pcoa (min components n) n d ≡ pcoa components n d
unfolding pcoa
pcoa-min components n d = ordinate-min components n (centred n d)

-- ---- a refused call leaves all as it was, and one that passes is what `pcoa` leaves

module _ (components n : ℕ) (d out b w m v : List Float) where
  abbrev says : Told
  says = first (pcoa_lines components n d (length out) (length b) (length w) (length m) (length v))

  untouched-line : {j : ℕ} → refused j ≡ says → untouched j ≡ true
  unfolding pcoa_lines all
  untouched-line h = first-untouched (pcoa_lines components n d (length out) (length b) (length w) (length m) (length v)) refl h

  pub call-refused : {j : ℕ} → refused j ≡ says → record { answer = refused j; out = out; b = b; w = w; m = m; v = v } ≡ pcoa_call components n d out b w m v
  unfolding pcoa_call leaves written output work
  call-refused {j} h =
      let kept : record { answer = refused j; out = out; b = b; w = w; m = m; v = v } ≡ leaves (min components n) n (refused j) out b w m v = rw (untouched-line h) in
      kept ∙ ap (λ (t : Told). leaves (min components n) n (judged t (pcoa components n d)) out b w m v) h

  pub call-passed : {k : ℕ} {c : Called} → k ≡ min components n → passed ≡ says → c ≡ leaves k n (pcoa k n d) out b w m v → c ≡ pcoa_call components n d out b w m v
  unfolding pcoa_call
  call-passed {k} e h f = f ∙ ap (λ (j : ℕ). leaves j n (pcoa j n d) out b w m v) e
      ∙ ap (λ (o : Outcome Coordinates). leaves (min components n) n o out b w m v) (pcoa-min components n d)
      ∙ ap (λ (t : Told). leaves (min components n) n (judged t (pcoa components n d)) out b w m v) h
