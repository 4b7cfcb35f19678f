-- Rows and grids: rows put, parts put back, entries of a grid.
use Rattle.lists.proofs.Base.{◌≡◌, refl, sym, ap, ◌∙◌, subst, ⊎_elim, List, ◌++◌, append_assoc, ℕ, zero, suc, ◌+◌, ◌-◌}
use Rattle.lists.proofs.Base.{◌<◌, ◌≤◌, ◌*◌, ◌/◌, ◌%◌, ℕ_discrete, dec_lt, arith, put_mid, length, get_or, take, drop, take-append-drop}
use Rattle.lists.proofs.Base.{length-drop, set, replicate, get_or-replicate, List·get_or-append, Float, nan}
use native.Mathlib.Nat.{add-sub_cancel_left, mul-zero, div-add-mod', mod-lt, div-lt_iff_lt-mul}
use lib.Seq.{length-take-le, ext_get_or, take_at, drop_at, take-append-le, drop-append-le, get_or-set_same, get_or-set_other, get_or-take, get_or-drop, get_or-append-add}
use Rattle.lists.specs.{Ranges.table, Ranges.rows, Ranges.grid, Rows.row, Rows.put_row, Rows.entry, Writes.over}
use Rattle.lists.proofs.{Parts.take-replicate, Parts.drop-replicate, Ranges.table-ext, Ranges.rows_ext, Ranges.length-rows, Ranges.length-grid}
use Rattle.lists.proofs.{Rows.row-end, Rows.cell_below, Rows.entry-grid, Truths.order, Writes.drop-over, Writes.Filling}

-- ---- rows of a list that is put together

module _ {A : Type 0} (w : ℕ) where
  -- the row after what lies before it, and another put in its place
  pub row_at : (i : ℕ) (p r s : List A) → length p ≡ i * w → length r ≡ w → row w i (p ++ (r ++ s)) ≡ r
  unfolding row
  row_at i p r s e f = ap (take w) (drop_at p (r ++ s) (i * w) e) ∙ take_at r s w f

  pub put-at : (i : ℕ) (p r s r' : List A) → length p ≡ i * w → length r ≡ w → put_row w i r' (p ++ (r ++ s)) ≡ p ++ (r' ++ s)
  unfolding put_row
  put-at i p r s r' e f = rw (take_at p (r ++ s) (i * w) e, drop_at p (r ++ s) (i * w) e, drop_at r s w f)

  -- a row that lies in the front
  pub row-front : (i : ℕ) (p t : List A) → i * w + w ≤ length p → row w i (p ++ t) ≡ row w i p
  unfolding row
  row-front i p t h = ap (take w) (drop-append-le (i * w) p t (omega arith)) ∙ take-append-le w (drop (i * w) p) t (rw length-drop (omega arith))

  pub row-taken : (i m : ℕ) (l t : List A) → i * w + w ≤ m → m ≤ length l → row w i (take m l ++ t) ≡ row w i l
  row-taken i m l t h g =
      let fits : i * w + w ≤ length (take m l) = omega (arith, length-take-le m l g) in
      row-front i (take m l) t fits ∙ sym (row-front i (take m l) (drop m l) fits) ∙ ap (row w i) (take-append-drop m l)

  -- the row that was put, one before it, one put over it, and the row itself put back
  module _ (i : ℕ) (l r : List A) (fits : i * w ≤ length l) (long : length r ≡ w) where
    pub row_put : row w i (put_row w i r l) ≡ r
    unfolding put_row
    row_put = row_at i (take (i * w) l) r (drop w (drop (i * w) l)) (length-take-le (i * w) l fits) long

    pub put-put : (r' : List A) → put_row w i r' (put_row w i r l) ≡ put_row w i r' l
    unfolding put_row
    put-put r' = put-at i (take (i * w) l) r (drop w (drop (i * w) l)) r' (length-take-le (i * w) l fits) long

  pub row-before-put : (k i : ℕ) (l r : List A) → k < i → i * w ≤ length l → row w k (put_row w i r l) ≡ row w k l
  unfolding put_row
  row-before-put k i l r h fits = row-taken k (i * w) l (r ++ drop w (drop (i * w) l)) (row-end w k i h) fits

  pub put_same : (i : ℕ) (l : List A) → put_row w i (row w i l) l ≡ l
  unfolding row put_row
  put_same i l = ap (λ (t : List A). take (i * w) l ++ t) (take-append-drop w (drop (i * w) l)) ∙ take-append-drop (i * w) l

-- row i of rows of w entries each, whatever follows them
pub row-rows : {A : Type 0} (w : ℕ) (f : ℕ → List A) → ((i : ℕ) → length (f i) ≡ w) → (k i : ℕ) (rest : List A) → i < k → row w i (rows k f ++ rest) ≡ f i
unfolding row rows
row-rows w f each zero i rest h = absurd (omega arith)
row-rows w f each (suc k) i rest h = ⊎_elim (λ (p : k ≤ i). let same : i ≡ k = omega arith in
    rw (same, append_assoc (rows k f) (f k) rest, drop_at (rows k f) (f k ++ rest) (k * w) (length-rows w f k (λ j _. each j))) (take_at (f k) rest w (each k)))
    (λ (p : i < k). ap (λ (l : List _). take w (drop (i * w) l)) (append_assoc (rows k f) (f k) rest) ∙ row-rows w f each k i (f k ++ rest) p)
    (order k i)

-- ---- the first k entries of row i, as the check has the part `&m[i * w..i * w + k]`

module _ (w i k : ℕ) (l : List Float) where
  pub part-entry : (j : ℕ) → j < k → get_or (take (i * w + k - i * w) (drop (i * w) l)) j nan ≡ entry w l i j
  unfolding entry
  part-entry j h = rw add-sub_cancel_left (get_or-take k (drop (i * w) l) j nan h ∙ get_or-drop (i * w) l j nan)

  pub length_front : i * w + k ≤ length l → length (take (i * w + k - i * w) (drop (i * w) l)) ≡ k
  length_front h = rw add-sub_cancel_left (length-take-le k (drop (i * w) l) (omega (arith, length-drop (i * w) l)))

-- ---- grids

-- equal rules, equal grids
pub grid-ext : {A : Type 0} (n w : ℕ) (f h : ℕ → ℕ → A) → ((i j : ℕ) → i < n → j < w → f i j ≡ h i j) → grid n w f ≡ grid n w h
unfolding grid
grid-ext n w f h e = rows_ext (λ i. table w (f i)) (λ i. table w (h i)) n (λ i g. table-ext (f i) (h i) w (λ j k. e i j g k))

-- one row alone
pub first-row : (w : ℕ) (l : List Float) (c : ℕ) → entry w l 0 c ≡ get_or l c nan
unfolding entry
first-row w l c = ap (λ (t : ℕ). get_or l t nan) (omega arith)

pub grid-one : (w : ℕ) (f : ℕ → ℕ → Float) → grid 1 w f ≡ table w (f 0)
unfolding grid rows
grid-one w f = refl

-- a list of n rows of w is the grid of its entries
module _ (n w : ℕ) (f : ℕ → ℕ → Float) (l : List Float) (same : (i j : ℕ) → i < n → j < w → entry w l i j ≡ f i j) where
  grid-cell : (k i j : ℕ) → i * w + j ≡ k → i < n → j < w → get_or l k nan ≡ get_or (grid n w f) k nan
  unfolding entry
  grid-cell k i j e h g = subst (λ (t : ℕ). get_or l t nan ≡ get_or (grid n w f) t nan) e (same i j h g ∙ sym (entry-grid n w f i j h g))

  grid-at : (k : ℕ) → k < n * w → get_or l k nan ≡ get_or (grid n w f) k nan
  grid-at k h =
      let wide : 0 < w = elim (ℕ_discrete w 0) [ yes e ↦ omega (arith, mul-zero n, ap (λ (t : ℕ). n * t) e) | no ne ↦ omega arith ] in
      grid-cell k (k / w) (k % w) (div-add-mod' k w) ((div-lt_iff_lt-mul wide).1 h) (mod-lt k wide)

  pub grid-of : length l ≡ n * w → l ≡ grid n w f
  grid-of len = ext_get_or nan l (grid n w f) (len ∙ sym (length-grid n w f)) (λ k h. grid-at k (omega arith))

-- ---- a part put back: what lies before it, in it and behind it

module _ {A : Type 0} (a k : ℕ) (l r : List A) (fits : a + k ≤ length l) (len : length r ≡ k) (d : A) where
  get_or-before : (t : ℕ) → t < a → get_or (put_mid a k l r) t d ≡ get_or l t d
  get_or-before t h =
      let front : length (take a l) ≡ a = length-take-le a l (omega arith) in
      List·get_or-append (take a l) (r ++ drop k (drop a l)) d t (omega arith) ∙ get_or-take a l t d h

  get_or-within : (t : ℕ) → t < k → get_or (put_mid a k l r) (a + t) d ≡ get_or r t d
  get_or-within t h =
      let front : length (take a l) ≡ a = length-take-le a l (omega arith) in
      ap (λ (s : ℕ). get_or (put_mid a k l r) (s + t) d) (sym front) ∙ get_or-append-add (take a l) (r ++ drop k (drop a l)) t d
      ∙ List·get_or-append r (drop k (drop a l)) d t (omega arith)

  get_d_after : (t : ℕ) → get_or (put_mid a k l r) (a + (k + t)) d ≡ get_or l (a + (k + t)) d
  get_d_after t =
      let front : length (take a l) ≡ a = length-take-le a l (omega arith) in
      ap (λ (s : ℕ). get_or (put_mid a k l r) (s + (k + t)) d) (sym front) ∙ get_or-append-add (take a l) (r ++ drop k (drop a l)) (k + t) d
      ∙ ap (λ (s : ℕ). get_or (r ++ drop k (drop a l)) (s + t) d) (sym len) ∙ get_or-append-add r (drop k (drop a l)) t d ∙ get_or-drop k (drop a l) t d
      ∙ get_or-drop a l (k + t) d

-- row j of rows of w put back: its entries, and those of the others
module _ (w j : ℕ) (l r : List Float) (fits : j * w + w ≤ length l) (len : length r ≡ w) where
  pub entry-put : (c : ℕ) → c < w → entry w (put_mid (j * w) (j * w + w - j * w) l r) j c ≡ get_or r c nan
  unfolding entry
  entry-put c h = rw add-sub_cancel_left (get_or-within (j * w) w l r fits len nan c h)

  pub entry-put-other : (i c : ℕ) → (i ≡ j → ⊥) → c < w → entry w (put_mid (j * w) (j * w + w - j * w) l r) i c ≡ entry w l i c
  unfolding entry
  entry-put-other i c ne h = rw add-sub_cancel_left (elim (dec_lt i j) [
    | yes below ↦ get_or-before (j * w) w l r fits len nan (i * w + c) (omega (arith, row-end w i j below))
    | no over ↦ let past : j < i = omega arith in
        let at : j * w + (w + (i * w + c - (j * w + w))) ≡ i * w + c = omega (arith, row-end w j i past) in
        subst (λ (t : ℕ). get_or (put_mid (j * w) w l r) t nan ≡ get_or l t nan) at (get_d_after (j * w) w l r fits len nan (i * w + c - (j * w + w)))
  ])

-- entry j, c written: that entry, and any other
module _ (w j c : ℕ) (l : List Float) (v : Float) where
  pub entry_set : j * w + c < length l → entry w (set l (j * w + c) v) j c ≡ v
  unfolding entry
  entry_set h = get_or-set_same l (j * w + c) v nan h

  pub entry_set_other : c < w → (i k : ℕ) → k < w → (i ≡ j → k ≡ c → ⊥) → entry w (set l (j * w + c) v) i k ≡ entry w l i k
  unfolding entry
  entry_set_other wide i k h ne = get_or-set_other l (j * w + c) (i * w + k) v nan (λ e. elim (ℕ_discrete i j) [
    | yes s ↦ ne s (omega (arith, ap (λ (t : ℕ). t * w) s))
    | no apart ↦ elim (dec_lt i j) [ yes below ↦ omega (arith, row-end w i j below) | no over ↦ (let past : j < i = omega arith in omega (arith, row-end w j i past)) ]
  ])

-- the same value everywhere
pub entry-replicate : (n w : ℕ) (v : Float) (i j : ℕ) → i < n → j < w → entry w (replicate (n * w) v) i j ≡ v
unfolding entry
entry-replicate n w v i j h g = get_or-replicate (n * w) (i * w + j) v nan (cell_below w n i j h g)

-- ---- rows that a loop has not reached

module _ {A : Type 0} (n w : ℕ) (f : ℕ → List A) (each : (i : ℕ) → length (f i) ≡ w) (old : List A) where
  -- the row that is filled next is still the old one
  pub filling-here : (l : List A) {k : ℕ} → Filling n w f old l k → take (k * w + w - k * w) (drop (k * w) l) ≡ row w k old
  unfolding row
  filling-here l {k} s = rw add-sub_cancel_left
      (ap (λ (t : List A). take w (drop (k * w) t)) s.held ∙ ap (take w) (drop-over (rows k f) old (k * w) (length-rows w f k (λ i _. each i))))

  -- where all held one value
  pub filling-blank : (v : A) (l : List A) {k : ℕ} → old ≡ replicate (n * w) v → Filling n w f old l k → k < n → take (k * w + w - k * w) (drop (k * w) l) ≡ replicate w v
  unfolding row
  filling-blank v l {k} blank s h =
      let room : k * w + w ≤ n * w = row-end w k n h in
      filling-here l s ∙ ap (λ (t : List A). take w (drop (k * w) t)) blank ∙ ap (take w) (drop-replicate (k * w) (n * w) v (omega arith))
      ∙ take-replicate w (n * w - k * w) v (omega arith)
