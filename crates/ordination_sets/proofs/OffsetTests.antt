-- n + 1 offsets that never fall are in ascending order, and what is asked of them test by test.
use Rattle.lists.proofs.Base.{◌≡◌, sym, Bool, true, false, not, ◌||◌, List, ℕ, ◌+◌, ◌<◌, arith, eq-eqb, ne_eqb, lt-ltb, le-ltb, eqb, ltb, length, get_or}
use Rattle.std.specs.Bool.{MatchBool}
use Rattle.std.specs.List.Sorted.{IsNonDecreasing}
use Rattle.lists.specs.Ranges.{range}
use Rattle.lists.proofs.Members.{member-any, none_any, member-range, range-member}
use Rattle.ordination_sets.specs.Lines.{falls, bad_offsets}

module _ (n hashes : ℕ) (l : List ℕ) where
  -- a number of offsets that does not fit
  pub bad-number : (length l ≡ n + 1 → ⊥) → true ≡ bad_offsets n hashes l
  unfolding bad_offsets
  bad-number d = rw (ne_eqb (length l) (n + 1) d)

  module _ (fit : length l ≡ n + 1) where
    -- one that fits leaves the ends and the order
    pub bad-ends : {b : Bool} → b ≡ (not (eqb (get_or l 0 0) 0) || not (eqb (get_or l n 0) hashes) || falls n l) → b ≡ bad_offsets n hashes l
    unfolding bad_offsets
    bad-ends e = rw (eq-eqb (length l) (n + 1) fit) e

    pub sorted-never : (r : Bool) → MatchBool r (IsNonDecreasing l) ((k : ℕ) × (k + 1 < length l) × ((d : ℕ) → get_or l (k + 1) d < get_or l k d)) → not r ≡ falls n l
    unfolding falls
    sorted-never true up =
        sym (none_any (λ i. ltb (get_or l (i + 1) 0) (get_or l i 0)) (range 0 n)
        (λ i m. le-ltb (get_or l (i + 1) 0) (get_or l i 0) (up i (i + 1) 0 (omega arith) (omega (arith, member-range n i m)))))
    sorted-never false down =
        sym (member-any (λ i. ltb (get_or l (i + 1) 0) (get_or l i 0)) (range 0 n) down.0 (range-member n down.0 (omega (arith, down.1))) (lt-ltb _ _ (down.2 0)))
