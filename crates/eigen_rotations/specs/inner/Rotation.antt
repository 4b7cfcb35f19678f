-- A rotation while one row of the matrix and one of the vectors are held apart. Definitions only.
use Rattle.std.specs.Prelude.{ℕ, List, Float}
use Rattle.lists.specs.Rows.{put_row}
use Rattle.eigen_rotations.specs.Rotation.{Turned, turned}

-- the matrix and the vectors whose rows p are held apart, as x and y
abbrev pub held : ℕ → ℕ → List Float → List Float → List Float → List Float → Turned
held n p m v x y = turned (put_row n p x m) (put_row n p y v)
