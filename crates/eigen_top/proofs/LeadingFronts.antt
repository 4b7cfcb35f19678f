-- The leading part of all the eigenpairs, as the part `&pairs[n..n + k * n]`.
use Rattle.lists.proofs.Base.{◌≡◌, List, ℕ, ◌+◌, ◌-◌, ◌*◌, ◌≤◌, add-sub_cancel_left, mul-le-mul_right, arith, length, take, drop, length-drop, length-take-le, Float}

module _ (n k : ℕ) (pairs : List Float) where
  pub leading-part : take (n + k * n - n) (drop n pairs) ≡ take (k * n) (drop n pairs)
  leading-part = rw add-sub_cancel_left

  pub length-leading : length pairs ≡ n + n * n → k ≤ n → length (take (k * n) (drop n pairs)) ≡ k * n
  length-leading e h =
      let fewer : k * n ≤ n * n = mul-le-mul_right n h in
      let behind = length-drop n pairs in length-take-le (k * n) (drop n pairs) (omega arith)
