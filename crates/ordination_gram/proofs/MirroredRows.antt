-- A matrix filled row by row, each row from the diagonal on, and before it mirrored from the rows above.
use Rattle.lists.proofs.Base.{◌≡◌, refl, sym, ap, ap₂, ◌∙◌, List, [], ◌∷◌, ◌++◌, map, append_assoc, append-nil, ℕ, zero, suc, ◌+◌, ◌-◌, ◌*◌}
use Rattle.lists.proofs.Base.{◌<◌, ◌≤◌, min, max, add-sub_cancel_left, add-one, arith, put_mid, length, get_or, take, drop, set, length-append}
use Rattle.lists.proofs.Base.{length-map, length-drop, take-append-drop, length-take-le, take_at, drop_at, drop-drop, take-take}
use Rattle.lists.specs.{Ranges.up_from, Ranges.range, Ranges.table, Ranges.rows, Loops.in_turn, Writes.over}
use Rattle.lists.proofs.Ranges.{range_none, range_last, length-range, map_last, length-table, get_or-table, table-last, rows_last, length-rows}
use Rattle.lists.proofs.{Rows.row-end, Rows.cell_below, Rows.get_or-row, Writes.over-next, Writes.over-all, Writes.length_over, Writes.drop-over}
use Rattle.lists.proofs.Grids.{row-rows}

-- ---- a row from place i on

module _ {A : Type 0} (f : ℕ → A) (old : List A) (i : ℕ) (h : i ≤ length old) where
  abbrev front : ℕ → List A
  front j = take i old ++ map f (range i j)

  length_front : (j : ℕ) → i ≤ j → length (front j) ≡ j
  length_front j g =
      let a = length-take-le i old h in
      let b = length-map (range i j) f in
      let c = length-range i j in length-append (take i old) (map f (range i j)) ∙ omega arith

  pub upper-none : old ≡ over (front i) old
  unfolding over
  upper-none =
      let none : front i ≡ take i old = ap (λ (l : List ℕ). take i old ++ map f l) (range_none i i (omega arith)) ∙ append-nil (take i old) in
      sym (take-append-drop i old) ∙ ap (λ (k : ℕ). take i old ++ drop k old) (sym (length-take-le i old h)) ∙ ap (λ (l : List A). l ++ drop (length l) old) (sym none)

  pub upper-next : (j : ℕ) {l : List A} {x : A} → i ≤ j → j < length old → l ≡ over (front j) old → x ≡ f j → set l j x ≡ over (front (j + 1)) old
  upper-next j {l} {x} g k e y =
      let more : front (j + 1) ≡ front j ++ (f j ∷ []) =
      ap (λ (r : List ℕ). take i old ++ map f r) (range_last i j g) ∙ ap (λ (r : List A). take i old ++ r) (map_last f (range i j) j) ∙ sym
      (append_assoc (take i old) (map f (range i j)) (f j ∷ [])) in
      over-next (front j) old e (length_front j g) y k ∙ ap (λ (t : List A). over t old) (sym more)

  pub upper-all : (j : ℕ) {l : List A} → j ≡ length old → l ≡ over (front j) old → l ≡ front (length old)
  upper-all j e inv = let long = length_front j (omega arith) in inv ∙ over-all (front j) old (omega arith) ∙ ap front e

-- ---- a table in two parts

module _ {A : Type 0} (f g : ℕ → A) (i : ℕ) where
  parts_from : (k : ℕ) → ((j : ℕ) → i ≤ j → j < i + k → f j ≡ g j) → table i f ++ map g (range i (i + k)) ≡ table (i + k) f
  parts_from zero e =
      let same : i ≡ i + 0 = omega arith in
      ap (λ (l : List ℕ). table i f ++ map g l) (range_none i (i + 0) (omega arith)) ∙ append-nil (table i f) ∙ ap (λ (n : ℕ). table n f) same
  parts_from (suc k) e =
      let n = i + k in
      let more : i + suc k ≡ n + 1 = omega arith in
      let last : g n ≡ f n = sym (e n (omega arith) (omega arith)) in
      ap (λ (m : ℕ). table i f ++ map g (range i m)) more ∙ ap (λ (l : List ℕ). table i f ++ map g l) (range_last i n (omega arith))
      ∙ ap (λ (l : List A). table i f ++ l) (map_last g (range i n) n) ∙ sym (append_assoc (table i f) (map g (range i n)) (g n ∷ []))
      ∙ ap₂ (λ (l : List A) (x : A). l ++ (x ∷ [])) (parts_from k (λ j a b. e j a (omega arith))) last ∙ sym (table-last f n)
      ∙ ap (λ (m : ℕ). table m f) (sym more)

  table-parts : (n : ℕ) → i ≤ n → ((j : ℕ) → i ≤ j → j < n → f j ≡ g j) → table i f ++ map g (range i n) ≡ table n f
  table-parts n h e =
      let all : i + (n - i) ≡ n = omega arith in
      ap (λ (m : ℕ). table i f ++ map g (range i m)) (sym all) ∙ parts_from (n - i) (λ j a b. e j a (omega arith)) ∙ ap (λ (m : ℕ). table m f) all

-- ---- what lies behind what was written

drop_past : {A : Type 0} (new old : List A) (k : ℕ) → length new ≤ k → drop k (over new old) ≡ drop k old
drop_past new old k h =
    let all : length new + (k - length new) ≡ k = omega arith in
    ap (λ (j : ℕ). drop j (over new old)) (sym all) ∙ sym (drop-drop (k - length new) (length new) (over new old))
    ∙ ap (drop (k - length new)) (drop-over new old (length new) refl) ∙ drop-drop (k - length new) (length new) old ∙ ap (λ (j : ℕ). drop j old) all

-- ---- row i is mirrored, then filled from the diagonal on: then i + 1 rows are written

module _ {A : Type 0} (u : ℕ → ℕ → A) (d : A) (n : ℕ) where
  abbrev pub entry_of : ℕ → ℕ → A
  entry_of i j = u (min i j) (max i j)

  abbrev pub full : ℕ → List A
  full i = table n (entry_of i)

  abbrev mirror : ℕ → ℕ → List A → List A
  mirror i j l = set l (i * n + j) (get_or l (j * n + i) d)

  length-fulls : (k : ℕ) → length (rows k full) ≡ k * n
  length-fulls k = length-rows n full k (λ i h. length-table (entry_of i) n)

  module _ (old : List A) (i : ℕ) (h : i < n) (room : n * n ≤ length old) where
    abbrev written : ℕ → List A
    written j = rows i full ++ table j (entry_of i)

    length-written : (j : ℕ) → length (written j) ≡ i * n + j
    length-written j = length-append (rows i full) (table j (entry_of i)) ∙ ap₂ (λ (a b : ℕ). a + b) (length-fulls i) (length-table (entry_of i) j)

    -- the mirror of an entry stands in a row above
    above : (j : ℕ) → j < i → get_or (over (written j) old) (j * n + i) d ≡ entry_of i j
    unfolding over
    above j g =
        let rest = table j (entry_of i) ++ drop (length (written j)) old in
        let lo : min j i ≡ min i j = omega arith in
        let hi : max j i ≡ max i j = omega arith in
        ap (λ (l : List A). get_or l (j * n + i) d) (append_assoc (rows i full) (table j (entry_of i)) (drop (length (written j)) old))
        ∙ sym (get_or-row n j (rows i full ++ rest) i d h)
        ∙ ap (λ (l : List A). get_or l i d) (row-rows n full (λ k. length-table (entry_of k) n) i j rest g) ∙ get_or-table (entry_of j) n i d h
        ∙ ap₂ u lo hi

    mirrored : {l : List A} → l ≡ over (rows i full) old → (j : ℕ) → j ≤ i → in_turn (mirror i) j l ≡ over (written j) old
    unfolding in_turn
    mirrored {l} e zero g = e ∙ ap (λ (t : List A). over t old) (sym (append-nil (rows i full)) ∙ ap (λ (t : List A). rows i full ++ t) (sym (unfold table up_from in refl)))
    mirrored {l} e (suc j) g =
        let inside = cell_below n n i j h (omega arith) in
        let more : written j ++ (entry_of i j ∷ []) ≡ written (suc j) =
        append_assoc (rows i full) (table j (entry_of i)) (entry_of i j ∷ []) ∙ ap (λ (t : List A). rows i full ++ t)
        (sym (table-last (entry_of i) j) ∙ ap (λ (k : ℕ). table k (entry_of i)) (add-one j)) in let before = mirrored e j (omega arith) in
        over-next (written j) old before (length-written j) (ap (λ (t : List A). get_or t (j * n + i) d) before ∙ above j (omega arith)) (omega arith) ∙ ap (λ (t : List A). over t old) more

    module _ {l m r : List A} (e : l ≡ over (rows i full) old) (f : m ≡ in_turn (mirror i) i l)
        (g : r ≡ take i (take (i * n + n - i * n) (drop (i * n) m)) ++ map (u i) (range i (length (take (i * n + n - i * n) (drop (i * n) m))))) where
      now : m ≡ over (written i) old
      now = f ∙ mirrored e i (omega arith)

      -- row i as it is lent: its front is mirrored
      lent : drop (i * n) m ≡ table i (entry_of i) ++ drop (length (written i)) old
      unfolding over
      lent = ap (drop (i * n)) (now ∙ append_assoc (rows i full) (table i (entry_of i)) (drop (length (written i)) old))
          ∙ drop_at (rows i full) (table i (entry_of i) ++ drop (length (written i)) old) (i * n) (length-fulls i)

      mirrored-front : take i (take n (drop (i * n) m)) ≡ table i (entry_of i)
      mirrored-front =
          take-take i n (drop (i * n) m) (omega arith) ∙ ap (take i) lent ∙ take_at (table i (entry_of i)) (drop (length (written i)) old) i (length-table (entry_of i) i)

      length-now : length m ≡ length old
      length-now = let ends = row-end n i n h in ap length now ∙ length_over (written i) old (omega (arith, length-written i))

      row_is : r ≡ full i
      row_is =
          let ends = row-end n i n h in
          let long = length-now in
          let width : length (take n (drop (i * n) m)) ≡ n = length-take-le n (drop (i * n) m) (omega (arith, length-drop (i * n) m)) in
          g
          ∙ ap (λ (w : ℕ). take i (take w (drop (i * n) m)) ++ map (u i) (range i (length (take w (drop (i * n) m))))) (add-sub_cancel_left (i * n) n)
          ∙ ap₂ (λ (t : List A) (w : ℕ). t ++ map (u i) (range i w)) mirrored-front width
          ∙ table-parts (entry_of i) (u i) i n (omega arith) (λ j a b. diagonal j a)
        where
          diagonal : (j : ℕ) → i ≤ j → u (min i j) (max i j) ≡ u i j
          diagonal j a = let lo : min i j ≡ i = omega arith in let hi : max i j ≡ j = omega arith in ap₂ u lo hi

      pub row-filled : put_mid (i * n) (i * n + n - i * n) m r ≡ over (rows (i + 1) full) old
      unfolding over
      row-filled =
          let ends = row-end n i n h in
          let front : take (i * n) m ≡ rows i full =
          ap (take (i * n)) (now ∙ append_assoc (rows i full) (table i (entry_of i)) (drop (length (written i)) old))
          ∙ take_at (rows i full) (table i (entry_of i) ++ drop (length (written i)) old) (i * n) (length-fulls i) in
          let behind : drop n (drop (i * n) m) ≡ drop (i * n + n) old =
          drop-drop n (i * n) m ∙ ap (drop (i * n + n)) now ∙ drop_past (written i) old (i * n + n) (omega (arith, length-written i)) in
          let size : length (rows i full ++ full i) ≡ i * n + n =
          length-append (rows i full) (full i) ∙ ap₂ (λ (a b : ℕ). a + b) (length-fulls i) (length-table (entry_of i) n) in
          ap (λ (w : ℕ). put_mid (i * n) w m r) (add-sub_cancel_left (i * n) n) ∙ ap₂ (λ (a b : List A). a ++ (r ++ b)) front behind
          ∙ ap (λ (t : List A). rows i full ++ (t ++ drop (i * n + n) old)) row_is ∙ sym (append_assoc (rows i full) (full i) (drop (i * n + n) old))
          ∙ ap (λ (k : ℕ). (rows i full ++ full i) ++ drop k old) (sym size) ∙ ap (λ (t : List A). t ++ drop (length t) old) (sym (rows_last full i))
