-- A matrix that is centred in its place, row after row.
use Rattle.lists.proofs.Base.{◌≡◌, ap, ap₂, ◌∙◌, List, ℕ, ◌+◌, ◌-◌, ◌*◌, ◌<◌, arith, get_or, take, drop, Float, nan}
use Rattle.lists.specs.{Ranges.table, Ranges.rows, Ranges.grid, Rows.entry}
use Rattle.lists.proofs.{Ranges.length-table, Ranges.length-rows, Ranges.table-ext, Rows.part-row, Rows.get_or-row}
use Rattle.lists.proofs.Writes.{Filling, get_or-behind}
use Rattle.ordination_coordinates.specs.Centred.{squares, mean, row_means, centring, centred_at, centred}

-- row i, as it is lent, still holds the squares
module _ (n : ℕ) (s m : List Float) (all : Float) where
  abbrev pub centred_row : ℕ → List Float
  centred_row i = table n (centred_at n s m all i)

  still : {l : List Float} {i : ℕ} (j : ℕ) → Filling n n centred_row s l i → j < n → get_or (take (i * n + n - i * n) (drop (i * n) l)) j nan ≡ entry n s i j
  unfolding entry
  still {l} {i} j w h =
      let before = length-rows n centred_row i (λ k _. length-table (centred_at n s m all k) n) in
      ap (λ (t : List Float). get_or t j nan) (part-row n i l) ∙ get_or-row n i l j nan h
      ∙ ap (λ (t : List Float). get_or t (i * n + j) nan) w.held ∙ get_or-behind (rows i centred_row) s (i * n + j) nan (omega arith)

  centred-row : {l : List Float} {i : ℕ} → Filling n n centred_row s l i
      → table n (λ j. centring (get_or (take (i * n + n - i * n) (drop (i * n) l)) j nan) (get_or m i nan) (get_or m j nan) all) ≡ centred_row i
  unfolding centred_at
  centred-row {l} {i} w =
      table-ext _ (centred_at n s m all i) n (λ j h. ap (λ (x : Float). centring x (get_or m i nan) (get_or m j nan) all) (still j w h))

  -- a row that was lent, of the length w
  pub centred-lent : {l r : List Float} {i w : ℕ} → Filling n n centred_row s l i → w ≡ n
      → r ≡ table w (λ j. centring (get_or (take (i * n + n - i * n) (drop (i * n) l)) j nan) (get_or m i nan) (get_or m j nan) all) → r ≡ centred_row i
  centred-lent {l} {r} {i} {w} f e h = h
      ∙ ap (λ (k : ℕ). table k (λ j. centring (get_or (take (i * n + n - i * n) (drop (i * n) l)) j nan) (get_or m i nan) (get_or m j nan) all)) e
      ∙ centred-row f

-- squares, their means, the mean of these, and the rows centred by them
pub centred-by : (n : ℕ) (d : List Float) {s m b : List Float} {all : Float} → s ≡ squares d → m ≡ row_means n s → all ≡ mean n m → b ≡ grid n n (centred_at n s m all)
    → b ≡ centred n d
unfolding centred
centred-by n d {s} {m} {b} {all} hs hm ha hb =
    let means : m ≡ row_means n (squares d) = hm ∙ ap (row_means n) hs in
    let middle : all ≡ mean n (row_means n (squares d)) = ha ∙ ap (mean n) means in
    hb ∙ ap₂ (λ (x y : List Float). grid n n (centred_at n x y all)) hs means ∙ ap (λ (a : Float). grid n n (centred_at n (squares d) (row_means n (squares d)) a)) middle
