-- Line 14, place by place: where it does not hold every entry equals its mirror and the diagonal is zero (`mirrors`), and the other way round; and it is enough to look
-- left of the diagonal and on it (`rows-unmirrored`).
use Rattle.lists.proofs.Base.{◌≡◌, refl, sym, ap₂, ◌∙◌, Bool, true, false, ◌||◌, List, ℕ, ◌<◌, ◌≤◌, ⊎_elim, arith, Float}
use lib.Ieee.{ne}
use Rattle.float.specs.Floats.{zero⁺}
use Rattle.float.proofs.Equal.{ne_comm, ne-self}
use Rattle.lists.specs.{Ranges.range, Rows.entry, Filters.any}
use Rattle.lists.proofs.Members.{member-range, range-member, any-fails, none_any}
use Rattle.lists.proofs.Truths.{or-neither, order, same_or_not}
use Rattle.lot.specs.Mirror.{asymmetric, nonzero_diagonal, unmirrored}
use Rattle.lot.specs.inner.Mirror.{row_unmirrored}

module _ (n : ℕ) (d : List Float) where
  pub record Mirrors : Type 0 where
    pub symmetric : (i j : ℕ) → i < n → j < n → ne (entry n d i j) (entry n d j i) ≡ false
    pub diagonal : (i : ℕ) → i < n → ne (entry n d i i) zero⁺ ≡ false

  pub mirrors : unmirrored n d ≡ false → Mirrors
  unfolding unmirrored asymmetric nonzero_diagonal
  mirrors e =
      let w = or-neither (asymmetric n d) (nonzero_diagonal n d) e in
      record {
        symmetric = λ i j h k. any-fails _ (range 0 n) (any-fails _ (range 0 n) w.0 i (range-member n i h)) j (range-member n j k);
        diagonal = λ i h. any-fails _ (range 0 n) w.1 i (range-member n i h);
      }

  pub mirrors-unmirrored : Mirrors → unmirrored n d ≡ false
  unfolding unmirrored asymmetric nonzero_diagonal
  mirrors-unmirrored m = ap₂ (λ (a b : Bool). a || b)
      (none_any _ (range 0 n) (λ i h. none_any _ (range 0 n) (λ j k. m.symmetric i j (member-range n i h) (member-range n j k))))
      (none_any _ (range 0 n) (λ i h. m.diagonal i (member-range n i h)))

  -- ---- row by row

  rows-mirror : any (row_unmirrored n d) (range 0 n) ≡ false → Mirrors
  unfolding row_unmirrored
  rows-mirror e =
      let row : (i : ℕ) → i < n → (any (λ j. ne (entry n d i j) (entry n d j i)) (range 0 i) ≡ false) × (ne (entry n d i i) zero⁺ ≡ false) =
      λ i h. or-neither _ _ (any-fails _ (range 0 n) e i (range-member n i h)) in
      let left : (i j : ℕ) → i < n → j < i → ne (entry n d i j) (entry n d j i) ≡ false = λ i j h k. any-fails _ (range 0 i) (row i h).0 j (range-member i j k) in
      record {
        symmetric = λ i j h k. ⊎_elim (λ (p : i ≡ j). rw (sym p) (ne-self _ _ (row i h).1))
            (λ q. ⊎_elim (λ (p : i ≤ j). ne_comm _ _ ∙ left j i k (omega arith)) (λ (p : j < i). left i j h p) (order i j)) (same_or_not i j);
        diagonal = λ i h. (row i h).1;
      }

  mirror-rows : Mirrors → any (row_unmirrored n d) (range 0 n) ≡ false
  unfolding row_unmirrored
  mirror-rows m = none_any _ (range 0 n) (λ i h.
      let below = member-range n i h in
      ap₂ (λ (a b : Bool). a || b) (none_any _ (range 0 i) (λ j k. m.symmetric i j below (omega (arith, member-range i j k, below)))) (m.diagonal i below))

  pub rows-unmirrored : any (row_unmirrored n d) (range 0 n) ≡ unmirrored n d
  rows-unmirrored = alike _ _ (λ e. mirrors-unmirrored (rows-mirror e)) (λ e. mirror-rows (mirrors e))
    where
      alike : (a b : Bool) → (a ≡ false → b ≡ false) → (b ≡ false → a ≡ false) → a ≡ b
      alike true true f g = refl
      alike true false f g = g refl
      alike false b f g = sym (f refl)
