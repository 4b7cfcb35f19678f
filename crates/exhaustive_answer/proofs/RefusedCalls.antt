-- What a call leaves that is turned away.
use Rattle.lists.proofs.Base.{◌≡◌, sym, ap, ◌∙◌, List, ◌++◌, ℕ, ◌≤◌, length, take, drop, replicate, length-take-le, Float}
use Rattle.float.specs.Floats.{zero⁺}
use Rattle.lists.specs.Writes.{over, cleared}
use Rattle.outcome.specs.declared.Refusal.{Refusal}
use Rattle.outcome.specs.Numbers.{number}
use Rattle.std.specs.Prelude.{Err}
use Rattle.exhaustive_hits.specs.Call.{Slices, slices_of, called}
use Rattle.exhaustive_answer.specs.inner.Refused.{turned}

-- the front of a slice, cleared
pub front-cleared : {A : Type 0} (x : A) (g : ℕ) (l : List A) {r : List A} → g ≤ length l → r ≡ cleared x (take g l) → r ++ drop g l ≡ over (replicate g x) l
unfolding cleared over
front-cleared x g l h e =
    let long : length (take g l) ≡ g = length-take-le g l h in
    ap (λ (t : List _). t ++ drop g l) (e ∙ ap (λ (k : ℕ). replicate k x) long)
    ∙ ap (λ (k : ℕ). replicate g x ++ drop k l) (sym (lib.ListN.length-replicate g x))

-- the parts of a call that is turned away
pub turned-is : (g : ℕ) (r : Refusal) (s : Slices) {group_labels counts : List ℕ} {means pair_terms weighted_squares coords eigenpairs vectors : List Float} {label_counts : List ℕ}
    → group_labels ≡ over (replicate g 0) s.labels → counts ≡ over (replicate g 0) s.counts → means ≡ over (replicate g zero⁺) s.means →
    pair_terms ≡ cleared zero⁺ s.pair_terms → weighted_squares ≡ cleared zero⁺ s.weighted_squares → coords ≡ cleared zero⁺ s.coords →
    eigenpairs ≡ cleared zero⁺ s.eigenpairs → vectors ≡ cleared zero⁺ s.vectors → label_counts ≡ cleared 0 s.label_counts →
    called (Err r) (slices_of group_labels counts means pair_terms weighted_squares coords eigenpairs vectors label_counts) ≡ turned g (number r) s
unfolding turned
turned-is g r s en ec em et ep eo er ev ew = λ i. called (Err r) (slices_of (en i) (ec i) (em i) (et i) (ep i) (eo i) (er i) (ev i) (ew i))
