-- The calls of a rotation leave what its definitions say, with the rows p held apart.
use Rattle.lists.proofs.Base.{◌≡◌, sym, ap, ap₂, ◌∙◌, Bool, true, false, ℕ, ◌+◌, ◌*◌, ◌<◌, ◌≤◌, le_refl, arith, length, get_or, length-set, Float, nan, lt}
use mathlib.Core.List.{List, zip_with}
use Rattle.float.specs.{Floats.◌⊗◌, Floats.1e-300, Order.magnitude}
use Rattle.lists.specs.Rows.{entry, row, put_row}
use Rattle.lists.proofs.{Rows.row-end, Rows.length-row, Rows.row-entry, Zips.length-zip_with}
use Rattle.eigen_rotations.specs.Rotation.{turn_first, turn_second, turn_entries, turn_columns, turn_rows, tangent, cosine, Turned, turned, turn_pair, rotate}
use Rattle.eigen_rotations.specs.inner.Rotation.{held}
use Rattle.eigen_rotations.proofs.RowsApart.{row_put, put-put, apart_below, row-put-other, put-put-other, rows_apart}

pub length-turn_entries : (p q : ℕ) (c s : Float) (r : List Float) → length (turn_entries p q c s r) ≡ length r
unfolding turn_entries
length-turn_entries p q c s r = simp length-set

-- ---- x in the place of row p of m

module _ (n p q : ℕ) (x m : List Float) (whole : length x ≡ n) (long : length m ≡ n * n) (p<q : p < q) (q<n : q < n) where
  fits-p : p * n + n ≤ length m
  fits-p = omega (arith, row-end n p n (omega arith))

  fits-q : q * n + n ≤ length m
  fits-q = omega (arith, row-end n q n q<n)

  held-entry : (j : ℕ) → j < n → get_or x j nan ≡ entry n (put_row n p x m) p j
  held-entry j h = ap (λ (r : List Float). get_or r j nan) (sym (row_put n p x m fits-p whole)) ∙ row-entry n p j (put_row n p x m) h

  other-entry : entry n m q q ≡ entry n (put_row n p x m) q q
  other-entry =
      sym (row-entry n q q m q<n) ∙ ap (λ (r : List Float). get_or r q nan) (sym (row-put-other nan n p q m fits-p fits-q (apart_below n p q p<q) x whole))
      ∙ row-entry n q q (put_row n p x m) q<n

  module _ (c s : Float) where
    columns-held : turn_columns n p q c s (put_row n p x m) ≡ put_row n p (turn_entries p q c s x) (turn_columns n p q c s m)
    unfolding turn_columns
    columns-held = rows_apart nan n (turn_entries p q c s) (length-turn_entries p q c s) n p x m whole long (omega arith) n (omega arith) (le_refl n)

    rows-held : turn_rows n p q c s (put_row n p x m) ≡ put_row n p (zip_with (turn_first c s) x (row n q m)) (put_row n q (zip_with (turn_second c s) x (row n q m)) m)
    unfolding turn_rows
    rows-held =
        let here = row_put n p x m fits-p whole in
        let there = row-put-other nan n p q m fits-p fits-q (apart_below n p q p<q) x whole in
        let one = zip_with (turn_first c s) x (row n q m) in
        let other = zip_with (turn_second c s) x (row n q m) in
        let same : length x ≡ length (row n q m) = whole ∙ sym (length-row n q m fits-q) in
        ap₂ (λ (a b : List Float). put_row n q (zip_with (turn_second c s) a b) (put_row n p (zip_with (turn_first c s) a b) (put_row n p x m))) here there
        ∙ ap (put_row n q other) (put-put n p x m fits-p whole one) ∙ put-put-other nan n p q m fits-p fits-q (apart_below n p q p<q) one other
        (length-zip_with (turn_first c s) x (row n q m) same ∙ whole) (length-zip_with (turn_second c s) x (row n q m) same ∙ whole)

-- ---- x and y in the places of the rows p of m and v

module _ (n p q : ℕ) (m v x y : List Float) (m-long : length m ≡ n * n) (v-long : length v ≡ n * n) (x-whole : length x ≡ n) (y-whole : length y ≡ n)
    (p<q : p < q) (q<n : q < n) where
  -- m₁ and x₁ are turned by columns, m₂ and x₂ then by rows, and v₂ and y₂ by rows alone
  pub turn-held : (c s : Float) {m₁ m₂ v₂ x₁ x₂ y₂ : List Float} → m₁ ≡ turn_columns n p q c s m → length m₁ ≡ length m → x₁ ≡ turn_entries p q c s x
      → (x₂ ≡ zip_with (turn_first c s) x₁ (row n q m₁)) × (m₂ ≡ put_row n q (zip_with (turn_second c s) x₁ (row n q m₁)) m₁)
      → (y₂ ≡ zip_with (turn_first c s) y (row n q v)) × (v₂ ≡ put_row n q (zip_with (turn_second c s) y (row n q v)) v)
      → held n p m₂ v₂ x₂ y₂ ≡ turn_pair n p q c s (held n p m v x y)
  unfolding turn_pair
  turn-held c s {m₁} {m₂} {v₂} {x₁} {x₂} {y₂} hm same hx mx vy =
      let x₁-whole : length x₁ ≡ n = ap length hx ∙ length-turn_entries p q c s x ∙ x-whole in
      let columns : put_row n p x₁ m₁ ≡ turn_columns n p q c s (put_row n p x m) =
      ap₂ (put_row n p) hx hm ∙ sym (columns-held n p q x m x-whole m-long p<q q<n c s) in
      let matrix : put_row n p x₂ m₂ ≡ turn_rows n p q c s (turn_columns n p q c s (put_row n p x m)) =
      ap₂ (put_row n p) mx.0 mx.1 ∙ sym (rows-held n p q x₁ m₁ x₁-whole (same ∙ m-long) p<q q<n c s) ∙ ap (turn_rows n p q c s) columns in
      let vectors : put_row n p y₂ v₂ ≡ turn_rows n p q c s (put_row n p y v) =
      ap₂ (put_row n p) vy.0 vy.1 ∙ sym (rows-held n p q y v y-whole v-long p<q q<n c s) in ap₂ turned matrix vectors

  -- z is the magnitude of the pair's entry, t and c the tangent and the cosine
  module _ {z : Float} (h : z ≡ magnitude (get_or x q nan)) where
    test : {b : Bool} → lt z 1e-300 ≡ b → lt (magnitude (entry n (put_row n p x m) p q)) 1e-300 ≡ b
    test e = ap (λ (a : Float). lt (magnitude a) 1e-300) (sym (held-entry n p q x m x-whole m-long p<q q<n q q<n)) ∙ ap (λ (a : Float). lt a 1e-300) (sym h) ∙ e

    pub rotate-skips : lt z 1e-300 ≡ true → held n p m v x y ≡ rotate n p q (held n p m v x y)
    unfolding rotate
    rotate-skips e = rw (test e, rotate)

    pub rotate-turns : {t c : Float} {st : Turned} → lt z 1e-300 ≡ false → t ≡ tangent (get_or x p nan) (entry n m q q) (get_or x q nan) → c ≡ cosine t
        → st ≡ turn_pair n p q c (t ⊗ c) (held n p m v x y) → st ≡ rotate n p q (held n p m v x y)
    unfolding rotate
    rotate-turns {t} {c} e ht hc f =
        let app = held-entry n p q x m x-whole m-long p<q q<n p (omega arith) in
        let aqq = other-entry n p q x m x-whole m-long p<q q<n in
        let apq = held-entry n p q x m x-whole m-long p<q q<n q q<n in
        let all = put_row n p x m in
        let t-is : t ≡ tangent (entry n all p p) (entry n all q q) (entry n all p q) =
        ht ∙ ap₂ (λ (a b : Float). tangent a b (get_or x q nan)) app aqq ∙ ap (tangent (entry n all p p) (entry n all q q)) apq in
        rw (test e, rotate) (f ∙ ap₂ (λ (a b : Float). turn_pair n p q b (a ⊗ b) (held n p m v x y)) t-is (hc ∙ ap cosine t-is))
