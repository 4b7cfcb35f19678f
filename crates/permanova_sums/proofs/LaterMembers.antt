-- A member with each later one: the members from a place on as a part of the list, and the terms of the first members before those of the rest.
use Rattle.lists.proofs.Base.{◌≡◌, refl, sym, ap, subst, ◌∙◌, List, map, ℕ, zero, suc, ◌+◌, ◌-◌, ◌≤◌, le_refl, add-one, arith, length, get_or, take, drop, length-drop, Float}
use Rattle.float.specs.Floats.{zero⁺}
use Rattle.lists.specs.{Ranges.rows, Filters.pairs, Sums.sum_from, Rows.entry}
use Rattle.lists.specs.inner.Numbers.{Below}
use Rattle.lists.proofs.{Rows.part-rest, Sums.sum-append, Sums.pairs-turn, Sums.pairs_end}
use Rattle.permanova_sums.specs.PairSums.{pair_sum}
use Rattle.permanova_sums.specs.inner.PairSums.{later_pair_terms}
use Rattle.permanova_sums.proofs.PlaceLists.{below-drop}

-- ---- the members from k on, as `&mem[k..]` lends them

pub below_rest : (m : ℕ) (mem : List ℕ) (k : ℕ) → Below m mem → Below m (take (length mem - k) (drop k mem))
below_rest m mem k b = subst (Below m) (sym (part-rest mem k)) (below-drop m mem k b)

pub length_rest : (mem : List ℕ) (k : ℕ) → length (take (length mem - k) (drop k mem)) ≡ length mem - k
length_rest mem k = ap length (part-rest mem k) ∙ length-drop k mem

module _ (t : List Float) (m : ℕ) (mem : List ℕ) where
  -- row a at the members after x, where a is member x
  pub sum-later : (x : ℕ) (s : Float) {a : ℕ} {r : Float} → a ≡ get_or mem x 0
      → r ≡ sum_from s (map (entry m t a) (take (length mem - (x + 1)) (drop (x + 1) mem))) → r ≡ sum_from s (later_pair_terms t m mem x)
  unfolding later_pair_terms
  sum-later x s e h = rw (part-rest mem (x + 1), e) at h

  -- the terms of the first n members with each later one, then the pairs of the rest
  first_then : (s : Float) (n : ℕ) → n ≤ length mem
      → sum_from (sum_from s (rows n (later_pair_terms t m mem))) (pairs (entry m t) (drop n mem)) ≡ sum_from s (pairs (entry m t) mem)
  unfolding rows later_pair_terms sum_from
  first_then s zero h = refl
  first_then s (suc n) h =
      let before = rows n (later_pair_terms t m mem) in
      rw (← add-one n) (pairs-turn (entry m t) (sum_from s before) mem n 0 (omega arith) (sum-append s before (later_pair_terms t m mem n)) (first_then s n (omega arith)))

  -- the pair sum: the first n members, then the rest as it is lent; or all members
  pub first_rest : (n : ℕ) {s r : Float} → n ≤ length mem → s ≡ sum_from zero⁺ (rows n (later_pair_terms t m mem))
      → r ≡ sum_from s (pairs (entry m t) (take (length mem - n) (drop n mem))) → r ≡ pair_sum t m mem
  unfolding pair_sum
  first_rest n h e g = rw (part-rest mem n, e) at g ∙ first_then zero⁺ n h

  pub first-all : {s : Float} → s ≡ sum_from zero⁺ (rows (length mem) (later_pair_terms t m mem)) → s ≡ pair_sum t m mem
  unfolding pair_sum
  first-all e =
      let whole = le_refl (length mem) in
      e ∙ pairs_end (entry m t) (sum_from zero⁺ (rows (length mem) (later_pair_terms t m mem))) mem (length mem) whole (first_then zero⁺ (length mem) whole)
