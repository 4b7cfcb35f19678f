-- Rows of a matrix as parts of one list. The part `&m[i * w..i * w + w]` as the check has it is row i, and the part put back is row i put back.
use Rattle.lists.proofs.Base.{◌≡◌, refl, sym, ap, ◌∙◌, Bool, true, false, List, ◌++◌, ℕ, zero, suc, ◌+◌, ◌-◌, ◌*◌, ◌<◌}
use Rattle.lists.proofs.Base.{◌≤◌, arith, ltb, length, get_or, take, drop, length-drop, List·get_or-append, length-take-le}
use Rattle.lists.proofs.Base.{take_all, get_or-take, get_or-drop, get_or-append-add, nan, Float, ltb-true, ltb-false}
use native.Mathlib.Nat.{add-sub_cancel_left, mul-le-mul_right, suc-mul, not-suc-le-zero}
use borrow.Rule.Slice.PartMut.{put_mid, same_len_mid}
use Rattle.lists.specs.{Ranges.table, Ranges.rows, Ranges.grid, Rows.entry, Rows.row, Rows.put_row, Rows.on_row}
use Rattle.lists.proofs.Ranges.{length-table, get_or-table, length-rows}

-- row i of n ends within the n rows, and so does each of its entries
pub row-end : (w i n : ℕ) → i < n → i * w + w ≤ n * w
row-end w i n h = rw suc-mul at (mul-le-mul_right w h)

pub cell_below : (w n i j : ℕ) → i < n → j < w → i * w + j < n * w
cell_below w n i j h g = let e = row-end w i n h in omega arith

-- the part `&l[k..]`, as the check has it
pub part-rest : {A : Type 0} (l : List A) (k : ℕ) → take (length l - k) (drop k l) ≡ drop k l
part-rest l k = take_all (length l - k) (drop k l) (rw length-drop (omega arith))

module _ {A : Type 0} (w i : ℕ) where
  pub part-row : (l : List A) → take (i * w + w - i * w) (drop (i * w) l) ≡ row w i l
  unfolding row
  part-row l = rw add-sub_cancel_left

  pub put-row : (l r : List A) → put_mid (i * w) (i * w + w - i * w) l r ≡ put_row w i r l
  unfolding put_row
  put-row l r = rw add-sub_cancel_left

  -- what a callee that was lent row i makes of it
  pub row-lent : (f : List A → List A) (l : List A) {r : List A} → r ≡ f (take (i * w + w - i * w) (drop (i * w) l)) →
      put_mid (i * w) (i * w + w - i * w) l r ≡ on_row w f i l
  unfolding on_row
  row-lent f l {r} e = put-row l r ∙ ap (λ (x : List A). put_row w i x l) (e ∙ ap f (part-row l))

  pub length-on-row : (l r : List A) → length r ≡ length (take (i * w + w - i * w) (drop (i * w) l)) →
      length (put_mid (i * w) (i * w + w - i * w) l r) ≡ length l
  length-on-row l r e = same_len_mid (i * w) (i * w + w - i * w) l r e

  module _ (l : List A) (fits : i * w + w ≤ length l) where
    pub length-row : length (row w i l) ≡ w
    unfolding row
    length-row = length-take-le w (drop (i * w) l) (rw length-drop (omega arith))

    pub length_part : length (take (i * w + w - i * w) (drop (i * w) l)) ≡ w
    length_part = ap length (part-row l) ∙ length-row

    pub length-put-row : (r : List A) → length r ≡ w → length (put_row w i r l) ≡ length l
    unfolding row put_row
    length-put-row r e = same_len_mid (i * w) w l r (e ∙ sym length-row)

  -- an entry of row i
  pub get_or-row : (l : List A) (j : ℕ) (d : A) → j < w → get_or (row w i l) j d ≡ get_or l (i * w + j) d
  unfolding row
  get_or-row l j d h = get_or-take w (drop (i * w) l) j d h ∙ get_or-drop (i * w) l j d

pub row-entry : (w i j : ℕ) (l : List Float) → j < w → get_or (row w i l) j nan ≡ entry w l i j
unfolding entry
row-entry w i j l h = get_or-row w i l j nan h

-- ---- entries of rows made by a rule

pub get_d_rows : {A : Type 0} (w : ℕ) (f : ℕ → List A) (n i j : ℕ) (d : A) → ((k : ℕ) → length (f k) ≡ w) → i < n → j < w → get_or (rows n f) (i * w + j) d ≡ get_or (f i) j d
unfolding rows
get_d_rows w f zero i j d each h g = absurd (not-suc-le-zero h)
get_d_rows w f (suc n) i j d each h g = go (ltb i n) refl (λ l. get_d_rows w f n i j d each l g)
  where
    long : length (rows n f) ≡ n * w
    long = length-rows w f n (λ k _. each k)

    go : (b : Bool) → ltb i n ≡ b → (i < n → get_or (rows n f) (i * w + j) d ≡ get_or (f i) j d) → get_or (rows n f ++ f n) (i * w + j) d ≡ get_or (f i) j d
    go true e before =
        let at : i * w + j < n * w = cell_below w n i j (ltb-true i n e) g in
        List·get_or-append (rows n f) (f n) d (i * w + j) (omega (arith, long)) ∙ before (ltb-true i n e)
    go false e before =
        let last : i ≡ n = omega (arith, ltb-false i n e) in
        let at : i * w + j ≡ length (rows n f) + j = ap (λ (k : ℕ). k * w + j) last ∙ ap (λ (k : ℕ). k + j) (sym long) in
        ap (λ (k : ℕ). get_or (rows n f ++ f n) k d) at ∙ get_or-append-add (rows n f) (f n) j d ∙ ap (λ (k : ℕ). get_or (f k) j d) (sym last)

pub entry-grid : (n w : ℕ) (f : ℕ → ℕ → Float) (i j : ℕ) → i < n → j < w → entry w (grid n w f) i j ≡ f i j
unfolding entry grid
entry-grid n w f i j h g = get_d_rows w (λ i. table w (f i)) n i j nan (λ k. length-table (f k) w) h g ∙ get_or-table (f i) w j nan g
