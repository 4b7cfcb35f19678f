-- The first part of a longer output was lent, and comes back.
use Rattle.lists.proofs.Base.{◌≡◌, ap, ◌∙◌, Bool, true, false, cond, List, ◌++◌, ℕ, arith, length, take, drop, replicate, length-append, length-replicate, take-append-drop, Float}
use Rattle.float.specs.Floats.{zero⁺}
use Rattle.lists.specs.Writes.{over}
use Rattle.lists.proofs.Parts.{over-front}
use Rattle.outcome.specs.{Outcome.Outcome, Outcome.answered, Outcome.refused, Slices.untouched, Slices.output}

pub output-front : {A : Type 0} (part : A → List Float) (k : ℕ) (o : Outcome A) (out : List Float) {new : List Float} → length new ≡ k
    → new ≡ output zero⁺ part k o (take k out) → new ++ drop k out ≡ output zero⁺ part k o out
unfolding output over
output-front part k (answered a) out many f =
    let whole = ap length f ∙ length-append (part a) (drop (length (part a)) (take k out)) in
    ap (λ (t : List Float). t ++ drop k out) f ∙ over-front (part a) out k (omega arith)
output-front part k (refused r) out {new} many f = by (untouched r) f
  where
    by : (t : Bool) → new ≡ cond t (take k out) (over (replicate k zero⁺) (take k out)) → new ++ drop k out ≡ cond t out (over (replicate k zero⁺) out)
    by true f = ap (λ (t : List Float). t ++ drop k out) f ∙ take-append-drop k out
    by false f = let zeros = length-replicate k zero⁺ in ap (λ (t : List Float). t ++ drop k out) f ∙ over-front (replicate k zero⁺) out k (omega arith)
