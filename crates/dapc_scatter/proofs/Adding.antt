-- Sums that a loop adds up in the cells of a matrix, n rows of w. To the cell j, c go the terms `f j c i`, in order, of those i that pass the test `q j`.
-- The invariant `Adding`: i turns are made, and what is left of each cell's sum, from what the cell holds, is the whole sum.
use Rattle.lists.proofs.Base.{◌≡◌, refl, sym, ap, subst, ◌∙◌, Bool, true, false, List, map, ℕ, ◌+◌, ◌-◌, ◌*◌, ◌<◌, ◌≤◌, arith, length, get_or, Float, nan, put_mid}
use Rattle.float.specs.Floats.{◌⊕◌}
use Rattle.lists.specs.{Ranges.range, Ranges.grid, Filters.filter, Sums.sum_from, Rows.entry}
use Rattle.lists.proofs.{Ranges.length-grid, Sums.kept-turn, Sums.kept-pass, Sums.kept-end}
use Rattle.lists.proofs.{Rows.row-end, Rows.length-on-row, Rows.length_part, Rows.entry-grid, Grids.grid-of, Grids.entry-put, Grids.entry-put-other}

-- the whole sum in a cell that held s
abbrev pub cell_sum : (ℕ → Bool) → (ℕ → Float) → ℕ → ℕ → Float → Float
cell_sum q f i hi s = sum_from s (map f (filter q (range i hi)))

pub record Adding (n w : ℕ) (q : ℕ → ℕ → Bool) (f : ℕ → ℕ → ℕ → Float) (hi : ℕ) (m₀ m : List Float) (i : ℕ) : Type 0 where
  pub most : i ≤ hi
  pub long : length m ≡ n * w
  pub left : (j c : ℕ) → j < n → c < w → cell_sum (q j) (f j c) i hi (entry w m j c) ≡ cell_sum (q j) (f j c) 0 hi (entry w m₀ j c)

differ : (b : Bool) → b ≡ true → b ≡ false → ⊥
differ b t e = let z : ◌≡◌ {A = Bool} true false = sym t ∙ e in let n : ◌≡◌ {A = ℕ} 0 1 = cc in omega arith

module _ (n w : ℕ) (q : ℕ → ℕ → Bool) (f : ℕ → ℕ → ℕ → Float) (hi : ℕ) (m₀ : List Float) where
  pub adding-none : length m₀ ≡ n * w → Adding n w q f hi m₀ m₀ 0
  adding-none e = record { most = omega arith; long = e; left = λ j c h g. refl }

  pub adding-all : {m : List Float} {i : ℕ} → Adding n w q f hi m₀ m i → hi ≤ i → m ≡ grid n w (λ j c. cell_sum (q j) (f j c) 0 hi (entry w m₀ j c))
  adding-all {m} {i} a h = grid-of n w (λ j c. cell_sum (q j) (f j c) 0 hi (entry w m₀ j c)) m
      (λ j c g k. kept-end (f j c) (entry w m j c) i hi (q j) h (a.left j c g k)) a.long

  -- a turn: where j passes, its cells get their terms, and else they stay
  pub adding-next : {m m' : List Float} {i : ℕ} → Adding n w q f hi m₀ m i → i < hi → length m' ≡ n * w
      → ((j c : ℕ) → j < n → c < w → q j i ≡ true → entry w m' j c ≡ entry w m j c ⊕ f j c i)
      → ((j c : ℕ) → j < n → c < w → q j i ≡ false → entry w m' j c ≡ entry w m j c) → Adding n w q f hi m₀ m' (i + 1)
  adding-next {m} {m'} {i} a h len gets stays =
      record { most = omega arith; long = len; left = λ j c g k. one j c (q j i) refl (gets j c g k) (stays j c g k) (a.left j c g k) }
    where
      one : (j c : ℕ) (b : Bool) → q j i ≡ b → (q j i ≡ true → entry w m' j c ≡ entry w m j c ⊕ f j c i)
          → (q j i ≡ false → entry w m' j c ≡ entry w m j c)
          → cell_sum (q j) (f j c) i hi (entry w m j c) ≡ cell_sum (q j) (f j c) 0 hi (entry w m₀ j c)
          → cell_sum (q j) (f j c) (i + 1) hi (entry w m' j c) ≡ cell_sum (q j) (f j c) 0 hi (entry w m₀ j c)
      one j c true e gets stays inv = kept-turn (f j c) (entry w m j c) i hi (q j) h e refl (gets e) inv
      one j c false e gets stays inv =
          ap (λ (s : Float). cell_sum (q j) (f j c) (i + 1) hi s) (stays e) ∙ kept-pass (f j c) (entry w m j c) i hi (q j) h e inv

  -- a turn in which no row passes
  pub adding-pass : {m : List Float} {i : ℕ} → Adding n w q f hi m₀ m i → i < hi → ((j : ℕ) → j < n → q j i ≡ false) → Adding n w q f hi m₀ m (i + 1)
  adding-pass {m} {i} a h none = adding-next a h a.long (λ j c g k e. absurd (differ (q j i) e (none j g))) (λ j c g k e. refl)

  -- a turn in which row j alone passes, and is put back
  pub adding-row : (m r : List Float) {i j : ℕ} → Adding n w q f hi m₀ m i → i < hi → j < n → length r ≡ w → q j i ≡ true
      → ((k : ℕ) → q k i ≡ true → k ≡ j) → ((c : ℕ) → c < w → get_or r c nan ≡ entry w m j c ⊕ f j c i)
      → Adding n w q f hi m₀ (put_mid (j * w) (j * w + w - j * w) m r) (i + 1)
  adding-row m r {i} {j} a h below len passes only gets =
      let m' = put_mid (j * w) (j * w + w - j * w) m r in
      let fits : j * w + w ≤ length m = omega (arith, row-end w j n below, a.long) in
      adding-next a h (length-on-row w j m r (len ∙ sym (length_part w j m fits)) ∙ a.long)
      (λ k c g z e. subst (λ (t : ℕ). entry w m' t c ≡ entry w m t c ⊕ f t c i) (sym (only k e)) (entry-put w j m r fits len c z ∙ gets c z))
      (λ k c g z e. entry-put-other w j m r fits len k c (λ same. differ (q j i) passes (ap (λ (t : ℕ). q t i) (sym same) ∙ e)) z)

  -- a turn in which every row passes: each cell gets its term
  pub adding-grid : (m : List Float) {m' : List Float} {i : ℕ} (t : ℕ → ℕ → Float) → Adding n w q f hi m₀ m i → i < hi → ((j : ℕ) → q j i ≡ true)
      → m' ≡ grid n w (λ j c. entry w m j c ⊕ t j c) → ((j c : ℕ) → j < n → c < w → t j c ≡ f j c i) → Adding n w q f hi m₀ m' (i + 1)
  adding-grid m {m'} {i} t a h pass e terms =
      let cells : ℕ → ℕ → Float = λ j c. entry w m j c ⊕ t j c in
      adding-next a h (ap length e ∙ length-grid n w cells)
      (λ j c g k _. ap (λ (l : List Float). entry w l j c) e ∙ entry-grid n w cells j c g k ∙ ap (λ (v : Float). entry w m j c ⊕ v) (terms j c g k))
      (λ j c g k no-pass. absurd (differ (q j i) (pass j) no-pass))
