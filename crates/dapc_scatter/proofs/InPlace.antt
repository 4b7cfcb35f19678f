-- A matrix, n rows of w, that a loop works out row by row in its own place: entry i, c becomes `g i c`.
use Rattle.lists.proofs.Base.{◌≡◌, sym, ap, subst, ◌∙◌, List, ℕ, ◌+◌, ◌-◌, ◌*◌, ◌<◌, ◌≤◌, ℕ_discrete, arith, length, get_or}
use Rattle.lists.proofs.Base.{take, drop, set, length-set, get_or-set_same, get_or-set_other, ext_get_or, Float, nan}
use borrow.Rule.Slice.PartMut.{put_mid, set_mid_at}
use Rattle.lists.specs.{Ranges.table, Ranges.grid, Rows.entry, Rows.row}
use Rattle.lists.proofs.{Ranges.length-table, Ranges.get_or-table, Ranges.table-ext, Rows.row-end, Rows.length-row, Rows.row-entry}
use Rattle.lists.proofs.{Writes.Filling, Writes.filling-none, Writes.filling-next, Writes.filling-all, Grids.part-entry, Grids.filling-here}

module _ (n w : ℕ) (g : ℕ → ℕ → Float) (old : List Float) where
  -- k rows are worked out
  abbrev pub Reworked : List Float → ℕ → Type 0
  Reworked l k = Filling n w (λ i. table w (g i)) old l k

  each : (i : ℕ) → length (table w (g i)) ≡ w
  each i = length-table (g i) w

  pub reworked-none : length old ≡ n * w → Reworked old 0
  reworked-none size = filling-none n w (λ i. table w (g i)) each old size

  pub reworked-all : {l : List Float} {k : ℕ} → length old ≡ n * w → Reworked l k → n ≤ k → l ≡ grid n w g
  unfolding grid
  reworked-all size s h = filling-all n w (λ i. table w (g i)) each old size s h

  -- an entry of the row that is worked out next is still the old one
  pub reworked-entry : (l : List Float) {k : ℕ} → Reworked l k → (c : ℕ) → c < w → entry w l k c ≡ entry w old k c
  reworked-entry l {k} s c h =
      sym (part-entry w k w l c h) ∙ ap (λ (t : List Float). get_or t c nan) (filling-here n w (λ i. table w (g i)) each old l s) ∙ row-entry w k c old h

  -- row k is lent, and each entry worked out from what stood there
  pub reworked-row : (l r : List Float) {k : ℕ} (h : ℕ → Float → Float) → length old ≡ n * w → Reworked l k → k < n
      → r ≡ table (length (take (k * w + w - k * w) (drop (k * w) l))) (λ c. h c (get_or (take (k * w + w - k * w) (drop (k * w) l)) c nan))
      → ((c : ℕ) → c < w → h c (entry w old k c) ≡ g k c) → Reworked (put_mid (k * w) (k * w + w - k * w) l r) (k + 1)
  reworked-row l r {k} h size s below is terms =
      let room : k * w + w ≤ length old = omega (arith, row-end w k n below) in
      let rule : List Float → List Float = λ t. table (length t) (λ c. h c (get_or t c nan)) in
      let t : ℕ → Float = λ c. h c (get_or (row w k old) c nan) in
      filling-next n w (λ i. table w (g i)) each old size s below (is ∙ ap rule (filling-here n w (λ i. table w (g i)) each old l s)
      ∙ ap (λ (m : ℕ). table m t) (length-row w k old room) ∙ table-ext t (g k) w (λ c z. ap (h c) (row-entry w k c old z) ∙ terms c z))

  -- one entry of row k is written, on the diagonal
  pub reworked-diagonal : (l : List Float) (v : Float) {k : ℕ} → length old ≡ n * w → Reworked l k → k < n → k < w → v ≡ g k k
      → ((c : ℕ) → (c ≡ k → ⊥) → c < w → entry w old k c ≡ g k c) → Reworked (set l (k * w + k) v) (k + 1)
  reworked-diagonal l v {k} size s below wide is others =
      let room : k * w + w ≤ length old = omega (arith, row-end w k n below) in
      let part = take (k * w + w - k * w) (drop (k * w) l) in
      let here : part ≡ row w k old = filling-here n w (λ i. table w (g i)) each old l s in
      let long : length part ≡ w = ap length here ∙ length-row w k old room in
      subst (λ (m : List Float). Reworked m (k + 1)) (set_mid_at (k * w) (k * w + w - k * w) k l v (omega arith))
      (filling-next n w (λ i. table w (g i)) each old size s below
      (ext_get_or nan (set part k v) (table w (g k)) (length-set part k v ∙ long ∙ sym (each k)) (λ c z. cell c (subst (λ (m : ℕ). c < m) (length-set part k v ∙ long) z) long here)))
    where
      cell : (c : ℕ) → c < w → length (take (k * w + w - k * w) (drop (k * w) l)) ≡ w → take (k * w + w - k * w) (drop (k * w) l) ≡ row w k old
          → get_or (set (take (k * w + w - k * w) (drop (k * w) l)) k v) c nan ≡ get_or (table w (g k)) c nan
      cell c z long here =
          let part = take (k * w + w - k * w) (drop (k * w) l) in
          elim (ℕ_discrete c k) [
            | yes e ↦ subst (λ (m : ℕ). get_or (set part k v) m nan ≡ get_or (table w (g k)) m nan) (sym e) (get_or-set_same part k v nan (omega arith) ∙ is ∙ sym (get_or-table (g k) w k nan wide))
            | no ne ↦ get_or-set_other part k c v nan ne ∙ ap (λ (m : List Float). get_or m c nan) here ∙ row-entry w k c old z ∙ others c ne z
                ∙ sym (get_or-table (g k) w c nan z)
          ]
