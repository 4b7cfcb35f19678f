-- Which pairs are found, by what Jacobi answers.
use Rattle.lists.proofs.Base.{◌≡◌, sym, ap, ◌∙◌, List, ◌++◌, ℕ, ◌+◌, ◌*◌, ◌≤◌, mul-le-mul, arith, length, take}
use Rattle.lists.proofs.Base.{drop, replicate, length-append, length-replicate, take_at, drop_at, Float}
use Rattle.float.specs.Floats.{zero⁺}
use Rattle.lists.specs.Writes.{over, cleared}
use Rattle.lists.proofs.Writes.{over-all}
use Rattle.outcome.specs.declared.Refusal.{Refusal}
use Rattle.std.specs.Prelude.{Result, Ok, Err}
use Rattle.outcome.specs.{Outcome.Outcome, Outcome.answered, Outcome.refused, Outcome.and_then, Numbers.number, Slices.output}
use Rattle.eigen_jacobi.specs.Eigen.{Eigen, jacobi}
use Rattle.eigen_jacobi.specs.inner.Call.{eigen_of}
use Rattle.eigen_jacobi.proofs.Calls.{only-unordered}
use Rattle.eigen_ritz.specs.{Ritz.Pairs, Given.written}
use Rattle.eigen_ritz.specs.inner.Given.{given, gives}

-- a block has at most 24 columns
pub small-square : {b : ℕ} → b ≤ 24 → b * b ≤ 576
small-square h = mul-le-mul h h

-- An output of just the length, by what is found: zeros on 11, else the values and the vectors.
module _ (k n : ℕ) (out : List Float) (len : length out ≡ k + k * n) {out' : List Float} where
  gives-unordered : (why : Refusal) → number why ≡ 11 → out' ≡ cleared zero⁺ out → given k (Err why) out' ≡ gives k n (refused (number why)) out
  unfolding gives written output cleared
  gives-unordered why e h =
      let many = length-replicate (k + k * n) zero⁺ in
      let all : out' ≡ over (replicate (k + k * n) zero⁺) out =
      h ∙ ap (λ (j : ℕ). replicate j zero⁺) len ∙ sym (over-all (replicate (k + k * n) zero⁺) out (omega arith)) in
      rw e (ap (λ (l : List Float). record { found = refused 11; out = l }) all)

  gives-pairs : (values vectors : List Float) → length values ≡ k → length vectors ≡ k * n → out' ≡ values ++ vectors
      → given k (Ok tt) out' ≡ gives k n (answered (record { values = values; vectors = vectors })) out
  unfolding gives written output
  gives-pairs values vectors many more h =
      let both = length-append values vectors in
      let front : take k out' ≡ values = ap (take k) h ∙ take_at values vectors k many in
      let back : drop k out' ≡ vectors = ap (drop k) h ∙ drop_at values vectors k many in
      let all : out' ≡ over (values ++ vectors) out = h ∙ sym (over-all (values ++ vectors) out (omega arith)) in
      λ i. record { found = answered (record { values = front i; vectors = back i }); out = all i }

  -- what follows from the answer of Jacobi for b by b entries t: `pairs` holds b values, and then b rows of b
  module _ (b : ℕ) (t : List Float) (found : Eigen → Pairs) (pairs : List Float) {r : Result ℕ Refusal} (e : eigen_of b r pairs ≡ jacobi b t) where
    pub found-refused : {why : Refusal} → r ≡ Err why → out' ≡ cleared zero⁺ out → given k (Err why) out' ≡ gives k n (and_then (jacobi b t) (λ p. answered (found p))) out
    unfolding and_then
    found-refused {why} is h =
        let here : refused (number why) ≡ jacobi b t = ap (λ (s : Result ℕ Refusal). eigen_of b s pairs) (sym is) ∙ e in
        gives-unordered why (only-unordered b t (number why) here) h ∙ ap (λ (o : Outcome Eigen). gives k n (and_then o (λ p. answered (found p))) out) here

    pub found-answered : {s : ℕ} (values vectors : List Float) → r ≡ Ok s → length values ≡ k → length vectors ≡ k * n → out' ≡ values ++ vectors
        → found (record { values = take b pairs; vectors = drop b pairs; sweeps = s }) ≡ record { values = values; vectors = vectors }
        → given k (Ok tt) out' ≡ gives k n (and_then (jacobi b t) (λ p. answered (found p))) out
    unfolding and_then
    found-answered {s} values vectors is many more h is_found =
        let here : answered (record { values = take b pairs; vectors = drop b pairs; sweeps = s }) ≡ jacobi b t = ap (λ (s : Result ℕ Refusal). eigen_of b s pairs) (sym is) ∙ e in
        gives-pairs values vectors many more h ∙ ap (λ (p : Pairs). gives k n (answered p) out) (sym is_found)
        ∙ ap (λ (o : Outcome Eigen). gives k n (and_then o (λ p. answered (found p))) out) here
