-- Words drawn one after the other.
use Rattle.lists.proofs.Base.{◌≡◌, refl, sym, ap, ◌∙◌, List, [], ◌∷◌, ◌++◌, map, ℕ, zero, suc, ◌+◌, ◌<◌, ◌≤◌, add-one, arith, length, set, length-map, length-set, Float}
use Rattle.lists.specs.{Loops.in_turn, Writes.over}
use Rattle.lists.proofs.{Loops.in_turn-more, Ranges.map_last, Writes.over_none, Writes.over-next, Writes.over-all}
use Rattle.splitmix.specs.SplitMix.{advance, uniform}
use Rattle.eigen_block.specs.Orthonormal.{states}

-- the state after k words
abbrev pub after : ℕ → ℕ → ℕ
after k s = in_turn (λ _. advance) k s

after_first : (k s : ℕ) → after (suc k) s ≡ after k (advance s)
unfolding in_turn
after_first zero s = refl
after_first (suc k) s = ap advance (after_first k s)

states-last : (k s : ℕ) → states (suc k) s ≡ states k s ++ (after (suc k) s ∷ [])
unfolding states in_turn
states-last zero s = refl
states-last (suc k) s =
    ap (λ (t : List ℕ). advance s ∷ t) (states-last k (advance s) ∙ ap (λ (x : ℕ). states k (advance s) ++ (x ∷ [])) (sym (after_first (suc k) s)))

length-states : (k s : ℕ) → length (states k s) ≡ k
unfolding states
length-states zero s = refl
length-states (suc k) s = ap suc (length-states k (advance s))

-- i words are drawn
pub record Drawing (seed : ℕ) (old l : List Float) (s i : ℕ) : Type 0 where
  pub most : i ≤ length old
  pub long : length l ≡ length old
  pub state : s ≡ after i seed
  pub held : l ≡ over (map uniform (states i seed)) old

module _ (seed : ℕ) (old : List Float) where
  length-drawn : (i : ℕ) → length (map uniform (states i seed)) ≡ i
  length-drawn i = length-map (states i seed) uniform ∙ length-states i seed

  pub drawing-none : Drawing seed old old seed 0
  unfolding states in_turn
  drawing-none = record { most = omega arith; long = refl; state = refl; held = sym (over_none old) }

  pub drawing-next : {l : List Float} {s s' i : ℕ} {x : Float} → Drawing seed old l s i → i < length old → s' ≡ advance s → x ≡ uniform s'
      → Drawing seed old (set l i x) s' (i + 1)
  drawing-next {l} {s} {s'} {i} {x} w h e g =
      let one : i + 1 ≡ suc i = add-one i in
      let state : s' ≡ after (i + 1) seed = e ∙ ap advance w.state ∙ sym (in_turn-more (λ _. advance) i seed) in
      let last : map uniform (states i seed) ++ (uniform s' ∷ []) ≡ map uniform (states (i + 1) seed) = sym (map_last uniform (states i seed) s')
      ∙ ap (map uniform) (ap (λ (t : ℕ). states i seed ++ (t ∷ [])) (state ∙ ap (λ (k : ℕ). after k seed) one) ∙ sym (states-last i seed)
      ∙ ap (λ (k : ℕ). states k seed) (sym one)) in record {
        most = omega arith;
        long = length-set l i x ∙ w.long;
        state = state;
        held = over-next (map uniform (states i seed)) old w.held (length-drawn i) g h ∙ ap (λ (t : List Float). over t old) last;
      }

  pub drawing-all : {l : List Float} {s i : ℕ} → Drawing seed old l s i → length old ≤ i → l ≡ map uniform (states (length old) seed)
  drawing-all {l} {s} {i} w h =
      let done : i ≡ length old = omega (arith, w.most) in
      let len = length-drawn (length old) in
      w.held ∙ ap (λ (k : ℕ). over (map uniform (states k seed)) old) done ∙ over-all (map uniform (states (length old) seed)) old (omega arith)
