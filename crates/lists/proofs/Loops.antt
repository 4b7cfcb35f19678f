-- A loop that has made k turns makes one more.
-- The invariant is `x ≡ in_turn step k x₀`; it begins by `refl` at 0, a turn is `in_turn-next _ _ _ inv ensures`. No induction in any function's proof.
use Rattle.lists.proofs.Base.{◌≡◌, refl, sym, ap, subst, ◌∙◌, List, ℕ, zero, suc, ◌+◌, ◌-◌, ◌<◌, ◌≤◌, add-one, arith, length}
use native.Mathlib.Nat.{sub_self}
use Rattle.lists.specs.Loops.{in_turn, from_to, down_to}

module _ {A : Type 0} where
  -- no turn, and one turn more
  pub in_turn-none : (step : ℕ → A → A) (a : A) → a ≡ in_turn step 0 a
  unfolding in_turn
  in_turn-none step a = refl

  pub in_turn-more : (step : ℕ → A → A) (k : ℕ) (a : A) → in_turn step (k + 1) a ≡ step k (in_turn step k a)
  unfolding in_turn
  in_turn-more step k a = rw add-one

  pub in_turn-next : (step : ℕ → A → A) (k : ℕ) (a : A) {b r : A} → b ≡ in_turn step k a → r ≡ step k b → r ≡ in_turn step (k + 1) a
  in_turn-next step k a e h = h ∙ ap (step k) e ∙ sym (in_turn-more step k a)

  -- from lo up
  pub from_to-none : (step : ℕ → A → A) (lo : ℕ) (a : A) → a ≡ from_to step lo lo a
  unfolding from_to in_turn
  from_to-none step lo a = rw sub_self

  pub from_to-next : (step : ℕ → A → A) (lo i : ℕ) (a : A) {b r : A} → lo ≤ i → b ≡ from_to step lo i a → r ≡ step i b → r ≡ from_to step lo (i + 1) a
  unfolding from_to
  from_to-next step lo i a {b} {r} h e f =
      let one_more : i + 1 - lo ≡ i - lo + 1 = omega arith in
      let here : i ≡ lo + (i - lo) = omega arith in rw one_more (in_turn-next (λ j. step (lo + j)) (i - lo) a e (f ∙ ap (λ (k : ℕ). step k b) here))

  -- From hi down: the turns made are those at i and above, with `hi - i` of them.
  pub down_to-none : (step : ℕ → A → A) (hi : ℕ) (a : A) → a ≡ in_turn (λ j. step (hi - (j + 1))) (hi - hi) a
  unfolding in_turn
  down_to-none step hi a = rw sub_self

  pub down_to-next : (step : ℕ → A → A) (hi i : ℕ) (a : A) {b r : A} → i < hi → b ≡ in_turn (λ j. step (hi - (j + 1))) (hi - (i + 1)) a → r ≡ step i b
      → r ≡ in_turn (λ j. step (hi - (j + 1))) (hi - i) a
  down_to-next step hi i a {b} {r} h e f =
      let one_more : hi - i ≡ hi - (i + 1) + 1 = omega arith in
      let here : i ≡ hi - (hi - (i + 1) + 1) = omega arith in
      rw one_more (in_turn-next (λ j. step (hi - (j + 1))) (hi - (i + 1)) a e (f ∙ ap (λ (k : ℕ). step k b) here))

  pub down_to-all : (step : ℕ → A → A) (lo hi : ℕ) (a : A) {b : A} → b ≡ in_turn (λ j. step (hi - (j + 1))) (hi - lo) a → b ≡ down_to step lo hi a
  unfolding down_to
  down_to-all step lo hi a e = e

  -- what every turn keeps, the loop keeps
  pub in_turn-keeps : (P : A → Type 0) (step : ℕ → A → A) → ((k : ℕ) (a : A) → P a → P (step k a)) → (n : ℕ) (a : A) → P a → P (in_turn step n a)
  unfolding in_turn
  in_turn-keeps P step keeps zero a p = p
  in_turn-keeps P step keeps (suc n) a p = keeps n (in_turn step n a) (in_turn-keeps P step keeps n a p)

  -- a loop carries a fact from turn to turn
  pub in_turn-carries : (P : ℕ → A → Type 0) (step : ℕ → A → A) (n : ℕ) (a : A) → P 0 a → ((k : ℕ) (b : A) → k < n → P k b → P (k + 1) (step k b)) → P n (in_turn step n a)
  unfolding in_turn
  in_turn-carries P step zero a p carries = p
  in_turn-carries P step (suc n) a p carries = subst (λ (k : ℕ). P k (step n (in_turn step n a))) (add-one n)
      (carries n (in_turn step n a) (omega arith) (in_turn-carries P step n a p (λ k b h. carries k b (omega arith))))

  pub from_to-carries : (P : ℕ → A → Type 0) (step : ℕ → A → A) (lo hi : ℕ) (a : A) → lo ≤ hi → P lo a
      → ((k : ℕ) (b : A) → lo ≤ k → k < hi → P k b → P (k + 1) (step k b)) → P hi (from_to step lo hi a)
  unfolding from_to
  from_to-carries P step lo hi a h p carries =
      let start : lo ≡ lo + 0 = omega arith in
      let end : lo + (hi - lo) ≡ hi = omega arith in
      subst (λ (k : ℕ). P k (in_turn (λ j. step (lo + j)) (hi - lo) a)) end
      (in_turn-carries (λ j b. P (lo + j) b) (λ j. step (lo + j)) (hi - lo) a (subst (λ (k : ℕ). P k a) start p)
      (λ j b g q. let next : lo + j + 1 ≡ lo + (j + 1) = omega arith in subst (λ (k : ℕ). P k (step (lo + j) b)) next (carries (lo + j) b (omega arith) (omega arith) q)))

  -- equal steps, equal loops
  pub in_turn-ext : (f h : ℕ → A → A) (n : ℕ) (a : A) → ((k : ℕ) (b : A) → k < n → f k b ≡ h k b) → in_turn f n a ≡ in_turn h n a
  unfolding in_turn
  in_turn-ext f h zero a e = refl
  in_turn-ext f h (suc n) a e = ap (f n) (in_turn-ext f h n a (λ k b g. e k b (omega arith))) ∙ e n (in_turn h n a) (omega arith)

-- a loop over a list whose every turn keeps the length
pub length-in_turn : {A : Type 0} (step : ℕ → List A → List A) → ((k : ℕ) (l : List A) → length (step k l) ≡ length l) →
    (n : ℕ) (l : List A) → length (in_turn step n l) ≡ length l
unfolding in_turn
length-in_turn step keeps zero l = refl
length-in_turn step keeps (suc n) l = keeps n (in_turn step n l) ∙ length-in_turn step keeps n l
