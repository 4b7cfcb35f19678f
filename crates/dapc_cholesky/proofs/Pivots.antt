-- What a row of the factor leaves of the rows before it, so that each pivot is what it was when it was found.
use Rattle.lists.proofs.Base.{◌≡◌, refl, sym, ap, ap₂, ◌∙◌, Bool, not, ◌||◌, List, ℕ, ◌+◌, ◌*◌, ◌<◌, ◌≤◌, arith, length, replicate, get_or-set_other, Float, nan, lt}
use Rattle.float.specs.Floats.{◌⊖◌, ◌⊗◌, zero⁺}
use Rattle.lists.specs.{Ranges.range, Loops.in_turn, Filters.any, Rows.entry}
use Rattle.lists.proofs.{Loops.in_turn-next, Loops.in_turn-carries, Loops.in_turn-ext, Rows.row-end, Searches.any-more, Searches.any_same}
use Rattle.dapc_cholesky.specs.Cholesky.{reduced, chol_entry, chol_row, factor, pivot_fails}

module _ (p : ℕ) (a : List Float) where
  reduced-same : (l l' : List Float) (i j : ℕ) → ((k : ℕ) → k < j → entry p l i k ≡ entry p l' i k) → ((k : ℕ) → k < j → entry p l j k ≡ entry p l' j k)
      → reduced p a l i j ≡ reduced p a l' i j
  unfolding reduced
  reduced-same l l' i j e f = in_turn-ext (λ k s. s ⊖ entry p l i k ⊗ entry p l j k) (λ k s. s ⊖ entry p l' i k ⊗ entry p l' j k) j (entry p a i j)
      (λ k s h. ap₂ (λ (x y : Float). s ⊖ x ⊗ y) (e k h) (f k h))

  -- an entry (i, j) leaves those before it
  entry-keeps : (i j : ℕ) (l : List Float) (k c : ℕ) → k * p + c < i * p + j → entry p (chol_entry p a i j l) k c ≡ entry p l k c
  unfolding chol_entry entry
  entry-keeps i j l k c h = get_or-set_other l (i * p + j) (k * p + c) _ nan (λ e. omega arith)

  row_keeps : (i : ℕ) (l : List Float) (k c : ℕ) → k < i → c < p → entry p (chol_row p a i l) k c ≡ entry p l k c
  unfolding chol_row
  row_keeps i l k c h g = in_turn-carries (λ _ m. entry p m k c ≡ entry p l k c) (chol_entry p a i) (i + 1) l refl
      (λ j m _ e. entry-keeps i j m k c (omega (arith, row-end p k i h)) ∙ e)

  -- a pivot as it is when its row stands
  pub pivot-kept : (i : ℕ) (l : List Float) → reduced p a l i i ≡ reduced p a (chol_entry p a i i l) i i
  pivot-kept i l =
      let same : (k : ℕ) → k < i → entry p l i k ≡ entry p (chol_entry p a i i l) i k = λ k h. sym (entry-keeps i i l i k (omega arith)) in
      reduced-same l (chol_entry p a i i l) i i same same

  -- i rows stand, and `fails` says whether one of their pivots is not above 0
  pub record Factoring (l : List Float) (fails : Bool) (i : ℕ) : Type 0 where
    pub most : i ≤ p
    pub long : length l ≡ p * p
    pub held : l ≡ in_turn (chol_row p a) i (replicate (p * p) zero⁺)
    pub told : fails ≡ any (λ k. not (lt zero⁺ (reduced p a l k k))) (range 0 i)

  pub factoring-next : (l : List Float) {l' : List Float} {fails b : Bool} {s : Float} {i : ℕ} → Factoring l fails i → i < p → length l' ≡ p * p → l' ≡ chol_row p a i l
      → s ≡ reduced p a l' i i → not (lt zero⁺ s) ≡ b → Factoring l' (fails || b) (i + 1)
  factoring-next l {l'} {fails} {b} {s} {i} f h len is pivot test =
      let old : ℕ → Bool = λ k. not (lt zero⁺ (reduced p a l k k)) in
      let new : ℕ → Bool = λ k. not (lt zero⁺ (reduced p a l' k k)) in
      record {
        most = omega arith;
        long = len;
        held = in_turn-next (chol_row p a) i (replicate (p * p) zero⁺) f.held is;
        told = ap (λ (t : Bool). t || b) (f.told ∙ any_same old new i (λ k g. ap (λ (t : Float). not (lt zero⁺ t)) (kept k g)))
            ∙ sym (any-more new i (ap (λ (t : Float). not (lt zero⁺ t)) (sym pivot) ∙ test));
      }
    where
      kept : (k : ℕ) → k < i → reduced p a l k k ≡ reduced p a l' k k
      kept k g =
          let same : (c : ℕ) → c < k → entry p l k c ≡ entry p l' k c = λ c y. sym (ap (λ (t : List Float). entry p t k c) is ∙ row_keeps i l k c g (omega arith)) in
          reduced-same l l' k k same same

  pub factoring-all : {l : List Float} {fails : Bool} {i : ℕ} → Factoring l fails i → p ≤ i → (l ≡ factor p a) × (fails ≡ pivot_fails p a (factor p a))
  unfolding factor pivot_fails
  factoring-all {l} {fails} {i} f h =
      let done : i ≡ p = omega (arith, f.most) in
      let is : l ≡ in_turn (chol_row p a) p (replicate (p * p) zero⁺) = f.held ∙ ap (λ (k : ℕ). in_turn (chol_row p a) k (replicate (p * p) zero⁺)) done in
      (is, f.told ∙ ap₂ (λ (t : List Float) (k : ℕ). any (λ k. not (lt zero⁺ (reduced p a t k k))) (range 0 k)) is done)
