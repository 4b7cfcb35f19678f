-- Past the table an operation is refused by 10 or 11 alone: outputs and work are zero then, and the work is zero either way.
use Rattle.lists.proofs.Base.{◌≡◌, refl, sym, ap, ◌∙◌, Bool, true, false, cond, List, ℕ, ◌+◌, min, arith, leb, length, replicate, length-replicate, Float, is_nan}
use Rattle.float.specs.Floats.{zero⁺}
use Rattle.lists.specs.{Filters.any, Writes.over, Writes.cleared}
use Rattle.lists.proofs.Writes.{over-all}
use Rattle.outcome.specs.{Outcome.Outcome, Outcome.answered, Outcome.refused, Outcome.and_then, Slices.untouched, Slices.output, Slices.work}
use Rattle.eigen_rotations.specs.{Sweeps.Swept, Sweeps.sweeps_from, Rotation.turned, Diagonal.identity, Diagonal.diagonal}
use Rattle.eigen_jacobi.specs.Eigen.{eigenpairs, jacobi}
use Rattle.eigen_ritz.specs.Ritz.{Pairs, rayleigh_ritz}
use Rattle.eigen_top.specs.{Leading.leading, Subspace.by_block, TopEigs.top_eigs}

abbrev pub Late : {A : Type 0} → Outcome A → Type 0
Late (answered a) = Unit
Late (refused r) = untouched r ≡ false

pub late-then : {A B : Type 0} (o : Outcome A) (f : A → B) → Late o → Late (and_then o (λ a. answered (f a)))
unfolding and_then
late-then (answered a) f h = tt
late-then (refused r) f h = h

late-jacobi : (n : ℕ) (a : List Float) → Late (jacobi n a)
unfolding jacobi eigenpairs
late-jacobi n a = by (sweeps_from 100 n 0 (turned a (identity n))) _ refl
  where
    by : (w : Swept) (b : Bool) → any is_nan (diagonal n w.left.matrix) ≡ b → Late (eigenpairs n w)
    by w true t = rw (t, eigenpairs) refl
    by w false t = rw (t, eigenpairs) tt

pub late-top : (k n : ℕ) (a : List Float) → Late (top_eigs k n a)
unfolding top_eigs leading by_block rayleigh_ritz
late-top k n a = by (min k n) (leb n 64)
  where
    by : (k : ℕ) (b : Bool) → Late {A = Pairs} (elim b as (λ b. Outcome Pairs) [ true ↦ leading k n a | false ↦ by_block k (min (k + 8) n) n a ])
    by k true = late-then (jacobi n a) _ (late-jacobi n a)
    by k false = late-then (jacobi (min (k + 8) n) _) _ (late-jacobi (min (k + 8) n) _)

-- ---- what such an operation leaves

pub late-work : {A B : Type 0} (zero : B) (o : Outcome A) (l : List B) → Late o → cleared zero l ≡ work zero o l
unfolding work
late-work zero (answered a) l h = refl
late-work zero (refused r) l h = sym (ap (λ (b : Bool). cond b l (cleared zero l)) h)

-- an output of just its length is all zero, or all that is answered
pub zeroed : (k : ℕ) (out : List Float) {new : List Float} → length out ≡ k → new ≡ cleared zero⁺ out → new ≡ over (replicate k zero⁺) out
unfolding cleared
zeroed k out e h = let many = length-replicate k zero⁺ in h ∙ ap (λ (j : ℕ). replicate j zero⁺) e ∙ sym (over-all (replicate k zero⁺) out (omega arith))

pub late-output : {A : Type 0} (part : A → List Float) (k : ℕ) (o : Outcome A) (out : List Float) {r : ℕ} {new : List Float} → o ≡ refused r → Late o → length out ≡ k
    → new ≡ cleared zero⁺ out → new ≡ output zero⁺ part k o out
unfolding output
late-output part k (answered a) out e h many f = cc
late-output part k (refused r) out e h many f = zeroed k out many f ∙ sym (ap (λ (b : Bool). cond b out (over (replicate k zero⁺) out)) h)
