-- Gram-Schmidt column by column. A column is worked on in one block and goes to another: the first j columns of the one with the rest of the other
-- are the block that the definition has.
use Rattle.lists.proofs.Base.{◌≡◌, sym, ap, ap₂, ◌∙◌, List, ◌++◌, append_assoc, append-nil, ℕ, zero, suc, ◌+◌, ◌*◌, ◌<◌}
use Rattle.lists.proofs.Base.{◌≤◌, zero-mul, mul-le-mul_right, add-one, arith, length, take, drop, length-append, length-drop}
use Rattle.lists.proofs.Base.{length-map, drop_of_length-le, take_all, take_at, drop_at, length-take-le, Float}
use Rattle.lists.specs.{Loops.in_turn, Rows.row, Rows.put_row, Rows.on_row}
use Rattle.lists.proofs.{Loops.in_turn-next, Loops.in_turn-ext, Rows.row-end, Rows.length-row, Rows.length-put-row, Zips.length-zip_with}
use Rattle.eigen_vectors.specs.Vectors.{less_times, divided, projected_off, unit}
use Rattle.lists.proofs.Grids.{row-taken, row_put, put-put, row-before-put, put_same}
use Rattle.eigen_block.specs.Orthonormal.{less_projection, unit_column, orthonormal}

-- ---- lengths

pub length-unit : (x : List Float) → length (unit x) ≡ length x
unfolding unit divided
length-unit x = length-map x _

pub length-off : (y x : List Float) → length x ≡ length y → length (projected_off y x) ≡ length x
unfolding projected_off less_times
length-off y x e = length-zip_with _ x y e

module _ (n : ℕ) where
  -- x without its parts along the first j columns of q
  abbrev pub off_all : List Float → ℕ → List Float → List Float
  off_all q j x = in_turn (λ i. projected_off (row n i q)) j x

  pub length-off-all : (q x : List Float) (j : ℕ) → j * n ≤ length q → length x ≡ n → length (off_all q j x) ≡ n
  unfolding in_turn
  length-off-all q x zero h e = e
  length-off-all q x (suc j) h e =
      let fits : j * n + n ≤ length q = omega arith in
      let long : length (off_all q j x) ≡ n = length-off-all q x j (omega arith) e in
      length-off (row n j q) (off_all q j x) (long ∙ sym (length-row n j q fits)) ∙ long

  -- ---- the definition's column j, as one row put in its place
  module _ (u : List Float) (j : ℕ) (fits : j * n + n ≤ length u) where
    in_place : (k : ℕ) → k ≤ j → in_turn (less_projection n j) k u ≡ put_row n j (off_all u k (row n j u)) u
    unfolding in_turn less_projection on_row
    in_place zero h = sym (put_same n j u)
    in_place (suc k) h =
        let r = off_all u k (row n j u) in
        let below : k * n ≤ j * n = mul-le-mul_right n (omega arith) in
        let long : length r ≡ n = length-off-all u (row n j u) k (omega arith) (length-row n j u fits) in
        let same : row n j (put_row n j r u) ≡ r = row_put n j u r (omega arith) long in
        let other : row n k (put_row n j r u) ≡ row n k u = row-before-put n k j u r (omega arith) (omega arith) in
        ap (less_projection n j k) (in_place k (omega arith)) ∙ ap₂ (λ (y x : List Float). put_row n j (projected_off y x) (put_row n j r u)) other same
        ∙ put-put n j u r (omega arith) long (projected_off (row n k u) r)

    pub column-put : unit_column n j (in_turn (less_projection n j) j u) ≡ put_row n j (unit (off_all u j (row n j u))) u
    unfolding unit_column on_row
    column-put =
        let r = off_all u j (row n j u) in
        let long : length r ≡ n = length-off-all u (row n j u) j (omega arith) (length-row n j u fits) in
        ap (unit_column n j) (in_place j (omega arith))
        ∙ ap (λ (x : List Float). put_row n j (unit x) (put_row n j r u)) (row_put n j u r (omega arith) long)
        ∙ put-put n j u r (omega arith) long (unit r)

  -- ---- the first j columns of q with the rest of z
  abbrev pub joined : ℕ → List Float → List Float → List Float
  joined j q z = take (j * n) q ++ drop (j * n) z

  module _ (j : ℕ) (q z : List Float) (fits-q : j * n + n ≤ length q) (fits-z : j * n + n ≤ length z) where
    front : length (take (j * n) q) ≡ j * n
    front = length-take-le (j * n) q (omega arith)

    length-joined : length (joined j q z) ≡ length z
    length-joined = length-append (take (j * n) q) (drop (j * n) z) ∙ omega (arith, front, length-drop (j * n) z)

    row-joined : row n j (joined j q z) ≡ row n j z
    unfolding row
    row-joined = ap (take n) (drop_at (take (j * n) q) (drop (j * n) z) (j * n) front)

    off-joined : (x : List Float) → off_all (joined j q z) j x ≡ off_all q j x
    off-joined x = in_turn-ext (λ i. projected_off (row n i (joined j q z))) (λ i. projected_off (row n i q)) j x
        (λ i y h. ap (λ (r : List Float). projected_off r y) (row-taken n i (j * n) q (drop (j * n) z) (row-end n i j h) (omega arith)))

    put-joined : (v w : List Float) → length v ≡ n → length w ≡ n → put_row n j v (joined j q z) ≡ joined (suc j) (put_row n j v q) (put_row n j w z)
    unfolding put_row
    put-joined v w lv lw =
        let back : length (take (j * n) z) ≡ j * n = length-take-le (j * n) z (omega arith) in
        let rest-q = drop n (drop (j * n) q) in
        let rest-z = drop n (drop (j * n) z) in
        let long-q : length (take (j * n) q ++ v) ≡ suc j * n = length-append (take (j * n) q) v ∙ omega (arith, front) in
        let long-z : length (take (j * n) z ++ w) ≡ suc j * n = length-append (take (j * n) z) w ∙ omega arith in
        let head : take (suc j * n) (take (j * n) q ++ (v ++ rest-q)) ≡ take (j * n) q ++ v =
        ap (take (suc j * n)) (sym (append_assoc (take (j * n) q) v rest-q)) ∙ take_at (take (j * n) q ++ v) rest-q (suc j * n) long-q in
        let tail : drop (suc j * n) (take (j * n) z ++ (w ++ rest-z)) ≡ rest-z =
        ap (drop (suc j * n)) (sym (append_assoc (take (j * n) z) w rest-z)) ∙ drop_at (take (j * n) z ++ w) rest-z (suc j * n) long-z in
        rw (take_at (take (j * n) q) (drop (j * n) z) (j * n) front, drop_at (take (j * n) q) (drop (j * n) z) (j * n) front, head, tail)
        (sym (append_assoc (take (j * n) q) v rest-z))

-- ---- j columns stand in q

pub record Standing (n b : ℕ) (start q z : List Float) (j : ℕ) : Type 0 where
  pub most : j ≤ b
  pub long-q : length q ≡ b * n
  pub long-z : length z ≡ b * n
  pub held : joined n j q z ≡ in_turn (λ j u. unit_column n j (in_turn (less_projection n j) j u)) j start

module _ (n b : ℕ) (start : List Float) where
  pub standing-none : (q : List Float) → length q ≡ b * n → length start ≡ b * n → Standing n b start q start 0
  unfolding in_turn
  standing-none q e f = record { most = omega arith; long-q = e; long-z = f; held = rw zero-mul }

  pub standing-next : {q z q' z' : List Float} {j : ℕ} → Standing n b start q z j → j < b → z' ≡ on_row n (off_all n q j) j z
      → q' ≡ put_row n j (unit (row n j z')) q → Standing n b start q' z' (j + 1)
  unfolding on_row
  standing-next {q} {z} {q'} {z'} {j} s h ez eq =
      let fits : j * n + n ≤ b * n = row-end n j b h in
      let fits-q : j * n + n ≤ length q = omega (arith, s.long-q) in
      let fits-z : j * n + n ≤ length z = omega (arith, s.long-z) in
      let w = off_all n q j (row n j z) in
      let lw : length w ≡ n = length-off-all n q (row n j z) j (omega arith) (length-row n j z fits-z) in
      let row-w : row n j z' ≡ w = ap (row n j) ez ∙ row_put n j z w (omega arith) lw in
      let lv : length (unit w) ≡ n = length-unit w ∙ lw in
      let eq' : q' ≡ put_row n j (unit w) q = eq ∙ ap (λ (r : List Float). put_row n j (unit r) q) row-w in
      let one : j + 1 ≡ suc j = add-one j in
      record {
        most = omega arith;
        long-q = ap length eq' ∙ length-put-row n j q fits-q (unit w) lv ∙ s.long-q;
        long-z = ap length ez ∙ length-put-row n j z fits-z w lw ∙ s.long-z;
        held = in_turn-next (λ j u. unit_column n j (in_turn (less_projection n j) j u)) j start s.held (ap (λ (k : ℕ). joined n k q' z') one
            ∙ ap₂ (joined n (suc j)) eq' ez ∙ sym (put-joined n j q z fits-q fits-z (unit w) w lv lw)
            ∙ ap (λ (x : List Float). put_row n j (unit x) (joined n j q z))
            (sym (off-joined n j q z fits-q fits-z (row n j z)) ∙ ap (off_all n (joined n j q z) j) (sym (row-joined n j q z fits-q fits-z)))
            ∙ sym (column-put n (joined n j q z) j (omega (arith, length-joined n j q z fits-q fits-z))));
      }

  pub standing-all : {q z : List Float} {j : ℕ} → Standing n b start q z j → b ≤ j → q ≡ orthonormal n b start
  unfolding orthonormal
  standing-all {q} {z} {j} s h =
      let done : j ≡ b = omega (arith, s.most) in
      let none : length z ≤ b * n = omega (arith, s.long-z) in
      sym (append-nil q) ∙ ap₂ (λ (x y : List Float). x ++ y) (sym (take_all (b * n) q (omega (arith, s.long-q)))) (sym (drop_of_length-le z none))
      ∙ ap (λ (k : ℕ). joined n k q z) (sym done) ∙ s.held
      ∙ ap (λ (k : ℕ). in_turn (λ j u. unit_column n j (in_turn (less_projection n j) j u)) k start) done
