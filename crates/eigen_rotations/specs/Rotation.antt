-- Section 4, `jacobi_eigen`: one rotation of the matrix and of the vectors so far. Definitions only.
use Rattle.std.specs.Prelude.{ℕ, true, false, cond, get_or, set, Float}
use mathlib.Core.List.{List, zip_with}
use Rattle.std.specs.Float.{nan}
use Rattle.std.specs.Float.Ieee.{lt, eq}
use Rattle.float.specs.Floats.{◌⊕◌, ◌⊖◌, ◌⊗◌, ◌⊘◌, zero⁺, 1·0, 2·0, 1e-300}
use Rattle.float.specs.Order.{magnitude, signum}
use Rattle.square_root.specs.Root.{root}
use Rattle.lists.specs.Loops.{in_turn}
use Rattle.lists.specs.Rows.{entry, row, put_row, on_row}

-- the pair x, y turned by cosine c and sine s
abbrev pub turn_first : Float → Float → Float → Float → Float
turn_first c s x y = c ⊗ x ⊖ s ⊗ y

abbrev pub turn_second : Float → Float → Float → Float → Float
turn_second c s x y = s ⊗ x ⊕ c ⊗ y

-- entries p and q of a row turned; columns p and q, those entries of each row; rows p and q
unfoldable pub turn_entries : ℕ → ℕ → Float → Float → List Float → List Float
turn_entries p q c s l =
    let x = get_or l p nan in
    let y = get_or l q nan in
    set (set l p (turn_first c s x y)) q (turn_second c s x y)

unfoldable pub turn_columns : ℕ → ℕ → ℕ → Float → Float → List Float → List Float
turn_columns n p q c s a = in_turn (on_row n (turn_entries p q c s)) n a

unfoldable pub turn_rows : ℕ → ℕ → ℕ → Float → Float → List Float → List Float
turn_rows n p q c s a =
    let x = row n p a in
    let y = row n q a in
    put_row n q (zip_with (turn_second c s) x y) (put_row n p (zip_with (turn_first c s) x y) a)

-- t, the tangent of the angle that makes the entry apq zero: theta of either zero gives t = 1
unfoldable pub tangent : Float → Float → Float → Float
tangent app aqq apq =
    let theta = (aqq ⊖ app) ⊘ (2·0 ⊗ apq) in
    cond (eq theta zero⁺) 1·0 (signum theta ⊘ (magnitude theta ⊕ root (theta ⊗ theta ⊕ 1·0)))

-- c, the cosine of that angle
unfoldable pub cosine : Float → Float
cosine t = 1·0 ⊘ root (t ⊗ t ⊕ 1·0)

-- The matrix, and the vectors so far, as rows (the Rust's columns).
pub record Turned : Type 0 where
  pub matrix : List Float
  pub vectors : List Float

abbrev pub turned : List Float → List Float → Turned
turned m v = record { matrix = m; vectors = v }

-- columns and rows p and q of the matrix, and rows p and q of the vectors
unfoldable pub turn_pair : ℕ → ℕ → ℕ → Float → Float → Turned → Turned
turn_pair n p q c s st = turned (turn_rows n p q c s (turn_columns n p q c s st.matrix)) (turn_rows n p q c s st.vectors)

-- the pair p, q: skipped below 1e-300 in magnitude
unfoldable pub rotate : ℕ → ℕ → ℕ → Turned → Turned
rotate n p q st =
    let a = st.matrix in
    let apq = entry n a p q in
    elim (lt (magnitude apq) 1e-300) as (λ b. Turned) [
      | true ↦ st
      | false ↦
          let t = tangent (entry n a p p) (entry n a q q) apq in
          let c = cosine t in
          turn_pair n p q c (t ⊗ c) st
    ]
