-- A front of a list that was lent and came back.
use Rattle.lists.proofs.Base.{◌≡◌, ◌∙◌, List, ◌++◌, ℕ, ◌≤◌, arith, length, take, drop, length-take-le, length_front, take_at}

-- l lent its first k entries, and r came back in their place
pub record Back {A : Type 0} (k : ℕ) (l r : List A) : Type 0 where
  pub long : length r ≡ k
  pub whole : length (r ++ drop k l) ≡ length l
  pub fits : k ≤ length (r ++ drop k l)
  pub front : take k (r ++ drop k l) ≡ r

module _ {A : Type 0} (k : ℕ) (l r : List A) (h : k ≤ length l) (e : length r ≡ length (take k l)) where
  pub back : Back k l r
  back =
      let long : length r ≡ k = e ∙ length-take-le k l h in
      let whole : length (r ++ drop k l) ≡ length l = length_front l r k e in
      record { long = long; whole = whole; fits = omega arith; front = take_at r (drop k l) k long }
