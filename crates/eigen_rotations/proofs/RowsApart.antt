-- A row held apart from its matrix: what is read from or put into another row does not touch it.
use Rattle.lists.proofs.Base.{◌≡◌, refl, sym, ap, ◌∙◌, subst, ◌⊎◌, inl, inr, ⊎_elim, List, ◌++◌, ℕ, zero, suc, ◌+◌, ◌-◌, ◌*◌, ◌<◌, ◌≤◌, arith, length, get_or, take}
use Rattle.lists.proofs.Base.{drop, take-append-drop, List·get_or-append, take_at, drop_at, length-take-le, get_or-take, get_or-drop, get_or-append-add, ext_get_or}
use native.Mathlib.Nat.{eq-or-lt_of_le, le_of_suc-le-suc, not-suc-le-zero, le_refl}
use borrow.Rule.Slice.PartMut.{same_len_mid}
use Rattle.float.proofs.Tests.{either_way}
use Rattle.lists.specs.{Loops.in_turn, Rows.row, Rows.put_row, Rows.on_row}
use Rattle.lists.proofs.{Loops.length-in_turn, Rows.row-end, Rows.length-row, Rows.length-put-row, Rows.get_or-row}

-- a row put back where it is
pub put-own : {A : Type 0} (w i : ℕ) (l : List A) → put_row w i (row w i l) l ≡ l
unfolding row put_row
put-own {A} w i l = ap (λ (t : List A). take (i * w) l ++ t) (take-append-drop w (drop (i * w) l)) ∙ take-append-drop (i * w) l

-- ---- r put into row i

module _ {A : Type 0} (w i : ℕ) (r l : List A) (fits : i * w + w ≤ length l) (whole : length r ≡ w) where
  front : length (take (i * w) l) ≡ i * w
  front = length-take-le (i * w) l (omega arith)

  pub row_put : row w i (put_row w i r l) ≡ r
  unfolding row put_row
  row_put = rw (drop_at (take (i * w) l) (r ++ drop w (drop (i * w) l)) (i * w) front) (take_at r (drop w (drop (i * w) l)) w whole)

  pub put-put : (s : List A) → put_row w i s (put_row w i r l) ≡ put_row w i s l
  unfolding put_row
  put-put s = rw (
    take_at (take (i * w) l) (r ++ drop w (drop (i * w) l)) (i * w) front,
    drop_at (take (i * w) l) (r ++ drop w (drop (i * w) l)) (i * w) front,
    drop_at r (drop w (drop (i * w) l)) w whole,
  )

  -- an entry before the row, in it, and behind it
  before-row : (k : ℕ) (d : A) → k < i * w → get_or (put_row w i r l) k d ≡ get_or l k d
  unfolding put_row
  before-row k d h = List·get_or-append (take (i * w) l) (r ++ drop w (drop (i * w) l)) d k (omega (arith, front)) ∙ get_or-take (i * w) l k d h

  in_row : (k : ℕ) (d : A) → i * w ≤ k → k < i * w + w → get_or (put_row w i r l) k d ≡ get_or r (k - i * w) d
  in_row k d g h =
      let at : i * w + (k - i * w) ≡ k = omega arith in
      subst (λ (j : ℕ). get_or (put_row w i r l) j d ≡ get_or r (k - i * w) d) at
      (sym (get_or-row w i (put_row w i r l) (k - i * w) d (omega arith)) ∙ ap (λ (t : List A). get_or t (k - i * w) d) row_put)

  behind-row : (k : ℕ) (d : A) → i * w + w ≤ k → get_or (put_row w i r l) k d ≡ get_or l k d
  unfolding put_row
  behind-row k d h =
      let e = k - (i * w + w) in
      let rest = drop w (drop (i * w) l) in
      let at : length (take (i * w) l) + (length r + e) ≡ k = omega (arith, front) in
      let there : i * w + (w + e) ≡ k = omega arith in
      subst (λ (j : ℕ). get_or (take (i * w) l ++ (r ++ rest)) j d ≡ get_or l k d) at (get_or-append-add (take (i * w) l) (r ++ rest) (length r + e) d
      ∙ get_or-append-add r rest e d ∙ get_or-drop w (drop (i * w) l) e d ∙ get_or-drop (i * w) l (w + e) d ∙ ap (λ (j : ℕ). get_or l j d) there)

-- ---- two rows that do not meet: row i ends before row j begins, or the other way round

abbrev pub Apart : ℕ → ℕ → ℕ → Type 0
Apart w i j = (i * w + w ≤ j * w) ⊎ (j * w + w ≤ i * w)

pub apart_below : (w i j : ℕ) → i < j → Apart w i j
apart_below w i j h = inl (row-end w i j h)

pub apart_above : (w i j : ℕ) → j < i → Apart w i j
apart_above w i j h = inr (row-end w j i h)

module _ {A : Type 0} (d : A) (w i j : ℕ) (l : List A) (fits-i : i * w + w ≤ length l) (fits-j : j * w + w ≤ length l) (apart : Apart w i j) where
  module _ (r : List A) (r-whole : length r ≡ w) where
    elsewhere : (k : ℕ) → j * w ≤ k → k < j * w + w → get_or (put_row w i r l) k d ≡ get_or l k d
    elsewhere k g h = ⊎_elim (λ a. behind-row w i r l fits-i r-whole k d (omega arith)) (λ a. before-row w i r l fits-i r-whole k d (omega arith)) apart

    pub row-put-other : row w j (put_row w i r l) ≡ row w j l
    row-put-other =
        let same = length-put-row w i l fits-i r r-whole in
        let one : length (row w j (put_row w i r l)) ≡ w = length-row w j (put_row w i r l) (omega arith) in
        ext_get_or d (row w j (put_row w i r l)) (row w j l) (one ∙ sym (length-row w j l fits-j)) (λ k h. at k (subst (λ (n : ℕ). k < n) one h))
      where
        at : (k : ℕ) → k < w → get_or (row w j (put_row w i r l)) k d ≡ get_or (row w j l) k d
        at k h = get_or-row w j (put_row w i r l) k d h ∙ elsewhere (j * w + k) (omega arith) (omega arith) ∙ sym (get_or-row w j l k d h)

-- where place k lies: outside row i, or in it
abbrev Outside : ℕ → ℕ → ℕ → Type 0
Outside w i k = (k < i * w) ⊎ (i * w + w ≤ k)

place_of : (w i k : ℕ) → Outside w i k ⊎ ((i * w ≤ k) × (k < i * w + w))
place_of w i k = ⊎_elim (λ low. ⊎_elim (λ high. inl (inr high)) (λ h. inr (low, h)) (either_way (i * w + w) k)) (λ h. inl (inl h)) (either_way (i * w) k)

outside-row : {A : Type 0} (d : A) (w i : ℕ) (r l : List A) → i * w + w ≤ length l → length r ≡ w → (k : ℕ) → Outside w i k → get_or (put_row w i r l) k d ≡ get_or l k d
outside-row d w i r l fits whole k = ⊎_elim (before-row w i r l fits whole k d) (behind-row w i r l fits whole k d)

-- the order of two puts does not matter
module _ {A : Type 0} (d : A) (w i j : ℕ) (l : List A) (fits-i : i * w + w ≤ length l) (fits-j : j * w + w ≤ length l) (apart : Apart w i j)
    (r s : List A) (r-whole : length r ≡ w) (s-whole : length s ≡ w) where
  one-long : length (put_row w i r l) ≡ length l
  one-long = length-put-row w i l fits-i r r-whole

  other-long : length (put_row w j s l) ≡ length l
  other-long = length-put-row w j l fits-j s s-whole

  fits_one : j * w + w ≤ length (put_row w i r l)
  fits_one = omega (arith, one-long)

  fits-other : i * w + w ≤ length (put_row w j s l)
  fits-other = omega (arith, other-long)

  each : (k : ℕ) → get_or (put_row w j s (put_row w i r l)) k d ≡ get_or (put_row w i r (put_row w j s l)) k d
  each k = ⊎_elim (λ out-j. ⊎_elim (neither out-j) (λ h. in-i out-j h.0 h.1) (place_of w i k)) (λ h. in-j h.0 h.1) (place_of w j k)
    where
      neither : Outside w j k → Outside w i k → get_or (put_row w j s (put_row w i r l)) k d ≡ get_or (put_row w i r (put_row w j s l)) k d
      neither out-j out-i = outside-row d w j s (put_row w i r l) fits_one s-whole k out-j ∙ outside-row d w i r l fits-i r-whole k out-i
          ∙ sym (outside-row d w i r (put_row w j s l) fits-other r-whole k out-i ∙ outside-row d w j s l fits-j s-whole k out-j)

      in-i : Outside w j k → i * w ≤ k → k < i * w + w → get_or (put_row w j s (put_row w i r l)) k d ≡ get_or (put_row w i r (put_row w j s l)) k d
      in-i out-j g h = outside-row d w j s (put_row w i r l) fits_one s-whole k out-j ∙ in_row w i r l fits-i r-whole k d g h
          ∙ sym (in_row w i r (put_row w j s l) fits-other r-whole k d g h)

      in-j : j * w ≤ k → k < j * w + w → get_or (put_row w j s (put_row w i r l)) k d ≡ get_or (put_row w i r (put_row w j s l)) k d
      in-j g h =
          let out-i : Outside w i k = ⊎_elim (λ a. inr (omega arith)) (λ a. inl (omega arith)) apart in
          in_row w j s (put_row w i r l) fits_one s-whole k d g h
          ∙ sym (outside-row d w i r (put_row w j s l) fits-other r-whole k out-i ∙ in_row w j s l fits-j s-whole k d g h)

  pub put-put-other : put_row w j s (put_row w i r l) ≡ put_row w i r (put_row w j s l)
  put-put-other = ext_get_or d (put_row w j s (put_row w i r l)) (put_row w i r (put_row w j s l))
      (length-put-row w j (put_row w i r l) fits_one s s-whole ∙ one-long ∙ sym (length-put-row w i (put_row w j s l) fits-other r r-whole ∙ other-long))
      (λ k h. each k)

-- ---- f done to each row, with x in the place of row i

module _ {A : Type 0} (d : A) (w : ℕ) (f : List A → List A) (keeps : (r : List A) → length (f r) ≡ length r) where
  length-on_row : (j : ℕ) (l : List A) → length (on_row w f j l) ≡ length l
  unfolding on_row row put_row
  length-on_row j l = same_len_mid (j * w) w l (f (row w j l)) (keeps (row w j l))

  on-row-other : (i j : ℕ) (x l : List A) → length x ≡ w → i * w + w ≤ length l → j * w + w ≤ length l → Apart w i j
      → on_row w f j (put_row w i x l) ≡ put_row w i x (on_row w f j l)
  unfolding on_row
  on-row-other i j x l whole fits-i fits-j apart =
      ap (λ (r : List A). put_row w j (f r) (put_row w i x l)) (row-put-other d w i j l fits-i fits-j apart x whole)
      ∙ put-put-other d w i j l fits-i fits-j apart x (f (row w j l)) whole (keeps (row w j l) ∙ length-row w j l fits-j)

  on-row-own : (i : ℕ) (x l : List A) → length x ≡ w → i * w + w ≤ length l → on_row w f i (put_row w i x l) ≡ put_row w i (f x) (on_row w f i l)
  unfolding on_row
  on-row-own i x l whole fits = ap (λ (r : List A). put_row w i (f r) (put_row w i x l)) (row_put w i x l fits whole) ∙ put-put w i x l fits whole (f x)
      ∙ sym (put-put w i (f (row w i l)) l fits (keeps (row w i l) ∙ length-row w i l fits) (f x))

  module _ (n i : ℕ) (x l : List A) (whole : length x ≡ w) (long : length l ≡ n * w) (within : i < n) where
    fits : (j k : ℕ) → j < n → j * w + w ≤ length (in_turn (on_row w f) k l)
    fits j k h = omega (arith, row-end w j n h, length-in_turn (on_row w f) length-on_row k l ∙ long)

    -- the first k rows are done: row i is not among them, is the last of them, or is one of them
    rows_before : (k : ℕ) → k ≤ i → in_turn (on_row w f) k (put_row w i x l) ≡ put_row w i x (in_turn (on_row w f) k l)
    unfolding in_turn
    rows_before zero h = refl
    rows_before (suc k) h = ap (on_row w f k) (rows_before k (omega arith))
        ∙ on-row-other i k x (in_turn (on_row w f) k l) whole (fits i k within) (fits k k (omega arith)) (apart_above w i k h)

    rows_last : (k : ℕ) → i ≡ k → on_row w f k (in_turn (on_row w f) k (put_row w i x l)) ≡ put_row w i (f x) (on_row w f k (in_turn (on_row w f) k l))
    rows_last k e = subst (λ (j : ℕ). on_row w f j (in_turn (on_row w f) j (put_row w i x l)) ≡ put_row w i (f x) (on_row w f j (in_turn (on_row w f) j l))) e
        (ap (on_row w f i) (rows_before i (le_refl i)) ∙ on-row-own i x (in_turn (on_row w f) i l) whole (fits i i within))

    pub rows_apart : (k : ℕ) → i < k → k ≤ n → in_turn (on_row w f) k (put_row w i x l) ≡ put_row w i (f x) (in_turn (on_row w f) k l)
    unfolding in_turn
    rows_apart zero h g = absurd (not-suc-le-zero h)
    rows_apart (suc k) h g = ⊎_elim (rows_last k) (λ e. ap (on_row w f k) (rows_apart k e (omega arith))
        ∙ on-row-other i k (f x) (in_turn (on_row w f) k l) (keeps x ∙ whole) (fits i k within) (fits k k g) (apart_below w i k e))
        (eq-or-lt_of_le (le_of_suc-le-suc h))
