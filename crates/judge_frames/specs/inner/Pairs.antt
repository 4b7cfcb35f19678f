-- Section 7: what putting a pair's distance leaves. Definitions and statements only.
use Rattle.std.specs.Prelude.{ℕ, ◌+◌, ◌*◌, ◌≡◌, Bool, true, false, not, ◌&&◌, cond, List, ltb, get_or, set, Float}
use Rattle.float.specs.Floats.{f64}
use Rattle.judge_frames.specs.declared.reader.Pair.{Pair}

-- a pair of the lot that is not marked
unfoldable pub unseen : ℕ → List Bool → Pair → Bool
unseen n seen p = ltb p.i p.j && ltb p.j n && not (get_or seen (p.i * n + p.j) false)

-- d and seen were held, and d' and seen' are: the distance at both its places and the mark, if r; else as before
pub record Put (n : ℕ) (p : Pair) (d : List Float) (seen : List Bool) (d' : List Float) (seen' : List Bool) (r : Bool) : Type 0 where
  pub told : r ≡ unseen n seen p
  pub mirrored : d' ≡ cond r (set (set d (p.i * n + p.j) (f64 p.bits)) (p.j * n + p.i) (f64 p.bits)) d
  pub marked : seen' ≡ cond r (set seen (p.i * n + p.j) true) seen
