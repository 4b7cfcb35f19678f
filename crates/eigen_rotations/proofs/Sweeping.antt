-- k sweeps are made of 100: whether there is one more.
use Rattle.lists.proofs.Base.{◌≡◌, true, false, ℕ, suc, ◌+◌, ◌-◌, ◌<◌, ◌≤◌, arith, lt}
use Rattle.float.specs.Floats.{1e-22}
use Rattle.eigen_rotations.specs.{Rotation.Turned, Pairs.sweep, Sweeps.off_diagonal, Sweeps.swept, Sweeps.sweeps_from}

module _ (n k : ℕ) (st : Turned) (h : k < 100) where
  left : 100 - k ≡ suc (99 - k)
  left = omega arith

  pub sweeps-end : lt (off_diagonal n st.matrix) 1e-22 ≡ true → swept k st ≡ sweeps_from (100 - k) n k st
  unfolding sweeps_from
  sweeps-end e = rw (left, e, sweeps_from)

  pub sweeps-on : lt (off_diagonal n st.matrix) 1e-22 ≡ false → sweeps_from (100 - (k + 1)) n (k + 1) (sweep n st) ≡ sweeps_from (100 - k) n k st
  unfolding sweeps_from
  sweeps-on e = let one_less : 100 - (k + 1) ≡ 99 - k = omega arith in rw (one_less, left, e, sweeps_from)

pub sweeps-none : (n k : ℕ) (st : Turned) → 100 ≤ k → swept k st ≡ sweeps_from (100 - k) n k st
unfolding sweeps_from
sweeps-none n k st h = let none_left : 100 - k ≡ 0 = omega arith in rw none_left

-- the same of the hundredth
pub sweeps-all : (n k : ℕ) (st : Turned) → k ≡ 100 → swept 100 st ≡ sweeps_from (100 - k) n k st
unfolding sweeps_from
sweeps-all n k st e = rw e
