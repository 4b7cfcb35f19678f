-- What a call leaves in everything lent, and what the lines of the table tell.
use Rattle.lists.proofs.Base.{◌≡◌, refl, ap, ◌∙◌, true, List, ◌++◌, ℕ, ◌+◌, ◌*◌, min, length, take, drop, Float}
use Rattle.float.specs.Floats.{zero⁺}
use Rattle.lists.specs.{Filters.all, Writes.cleared}
use Rattle.std.specs.Prelude.{Result, Ok, Err}
use Rattle.outcome.specs.declared.Refusal.{Refusal}
use Rattle.outcome.specs.{Refusals.first, Outcome.Outcome, Outcome.Told, Outcome.refused, Outcome.passed, Outcome.judged}
use Rattle.outcome.specs.{Outcome.told_of, Numbers.told, Slices.output, Slices.work, Slices.untouched}
use Rattle.outcome.proofs.Table.{first-untouched}
use Rattle.eigen_jacobi.proofs.OutputFronts.{output-front}
use Rattle.eigen_ritz.specs.{Ritz.Pairs, Given.written}
use Rattle.eigen_ritz.specs.inner.Given.{pairs_of, Given, given, gives}
use Rattle.eigen_top.specs.{TopLines.top_lines, TopEigs.top_eigs, Call.Called, Call.called, Call.leaves, Call.top_call}
use Rattle.eigen_top.proofs.TopPairs.{top-min, top-work}

-- ---- on slices that may be longer, with the work cleared

check-read : (k : ℕ) (r : Result Unit Refusal) (out : List Float) → told r ≡ told_of (pairs_of k r out)
check-read k (Ok _) out = refl
check-read k (Err r) out = refl

pub given-leaves : (k n : ℕ) (a out w m v : List Float) (r : Result Unit Refusal) {part w' m' v' : List Float} →
    given k r part ≡ gives k n (top_eigs k n a) (take (k + k * n) out) → length part ≡ k + k * n
    → w' ≡ cleared zero⁺ w → m' ≡ cleared zero⁺ m → v' ≡ cleared zero⁺ v → called r (part ++ drop (k + k * n) out) w' m' v' ≡ leaves k n (top_eigs k n a) out w m v
unfolding leaves gives written
given-leaves k n a out w m v r {part} {w'} {m'} {v'} e many hw hm hv =
    let o = top_eigs k n a in
    let answer : told r ≡ told_of o = check-read k r part ∙ ap (λ (g : Given). told_of g.found) e in
    let first : part ++ drop (k + k * n) out ≡ written k n o out = output-front (λ e. e.values ++ e.vectors) (k + k * n) o out many (ap (λ (g : Given). g.out) e) in
    let w-is : w' ≡ work zero⁺ o w = hw ∙ top-work k n a w in
    let m-is : m' ≡ work zero⁺ o m = hm ∙ top-work k n a m in
    let v-is : v' ≡ work zero⁺ o v = hv ∙ top-work k n a v in λ i. record { answer = answer i; out = first i; w = w-is i; m = m-is i; v = v-is i }

-- ---- a refused call leaves all as it was, and one that passes is what the pairs leave

module _ (components n : ℕ) (a out w m v : List Float) where
  abbrev says : Told
  says = first (top_lines components n a (length out) (length w) (length m) (length v))

  untouched-line : {k : ℕ} → refused k ≡ says → untouched k ≡ true
  unfolding top_lines all
  untouched-line h = first-untouched (top_lines components n a (length out) (length w) (length m) (length v)) refl h

  abbrev left : Told → Called
  left t = leaves (min components n) n (judged t (top_eigs components n a)) out w m v

  pub call-refused : {k : ℕ} → refused k ≡ says → record { answer = refused k; out = out; w = w; m = m; v = v } ≡ top_call components n a out w m v
  unfolding top_call leaves written output work
  call-refused {k} h =
      let kept : record { answer = refused k; out = out; w = w; m = m; v = v } ≡ left (refused k) = rw (untouched-line h) in kept ∙ ap left h

  pub call-passed : {c : Called} {k : ℕ} → passed ≡ says → k ≡ min components n → c ≡ leaves k n (top_eigs k n a) out w m v → c ≡ top_call components n a out w m v
  unfolding top_call
  call-passed h is e = e ∙ ap (λ (j : ℕ). leaves j n (top_eigs j n a) out w m v) is
      ∙ ap (λ (o : Outcome Pairs). leaves (min components n) n o out w m v) (top-min components n a) ∙ ap left h
