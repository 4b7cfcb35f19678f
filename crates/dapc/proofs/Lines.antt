-- The lines of the table, and what holds where all are passed.
use Rattle.lists.proofs.Base.{◌≡◌, refl, sym, ◌∙◌, Bool, true, false, not, ◌||◌, List, [], ◌∷◌, ℕ, ◌+◌, ◌*◌, ◌<◌, ◌≤◌, arith}
use Rattle.lists.proofs.Base.{lt-ltb, le-ltb, eq-eqb, ne_eqb, not-false, eqb-true, ltb-false, eqb, ltb, length, Float}
use Rattle.lists.specs.Filters.{any}
use Rattle.outcome.specs.{Outcome.refused, Outcome.passed, Refusals.first, Refusals.short}
use Rattle.lists.proofs.Truths.{or-neither, or-false}
use Rattle.outcome.proofs.{Table.first-passed, Lengths.long-at}
use Rattle.dapc_discriminant.specs.Dapc.{columns_used}
use Rattle.dapc.specs.DapcLines.{dapc_asks, misfits, bad_coordinate, shape_lines, group_lines}

-- ---- line 1, test after test

module _ (n columns x labels out assigned : ℕ) where
  abbrev tests : Bool → Bool → Bool → Bool → Bool
  tests p l o a = not p || not l || (o || (a || false))

  -- the tests one after the other
  misfits-by : {p l o a : Bool} → eqb x (n * columns) ≡ p → eqb labels n ≡ l → ltb out (columns + n * columns) ≡ o → ltb assigned n ≡ a
      → misfits n columns x labels out assigned ≡ tests p l o a
  unfolding misfits short
  misfits-by {p} {l} {o} {a} e f h k = λ i. tests (e i) (f i) (h i) (k i)

  pub misfit-product : eqb x (n * columns) ≡ false → true ≡ misfits n columns x labels out assigned
  misfit-product e = sym (misfits-by e refl refl refl)

  module _ (e : eqb x (n * columns) ≡ true) where
    pub misfit-labels : (labels ≡ n → ⊥) → true ≡ misfits n columns x labels out assigned
    misfit-labels ne = sym (misfits-by e (ne_eqb labels n ne) refl refl)

    module _ (f : labels ≡ n) where
      pub misfit-out : out < columns + x → true ≡ misfits n columns x labels out assigned
      misfit-out h = sym (misfits-by e (eq-eqb labels n f) (lt-ltb out (columns + n * columns) (omega (arith, eqb-true x (n * columns) e))) refl)

      pub misfit-assigned : columns + x ≤ out → ltb assigned n ≡ misfits n columns x labels out assigned
      misfit-assigned h =
          sym (misfits-by e (eq-eqb labels n f) (le-ltb out (columns + n * columns) (omega (arith, eqb-true x (n * columns) e))) refl ∙ or-false (ltb assigned n))

-- ---- lines 1 to 3

module _ (n columns : ℕ) (x : List Float) (labels out assigned : ℕ) where
  pub line-length : misfits n columns (length x) labels out assigned ≡ true → refused 1 ≡ first (shape_lines n columns x labels out assigned)
  unfolding shape_lines first
  line-length h = rw h

  module _ (h : misfits n columns (length x) labels out assigned ≡ false) where
    pub line-samples : ltb 256 n ≡ true → refused 2 ≡ first (shape_lines n columns x labels out assigned)
    unfolding shape_lines first
    line-samples g = rw (h, g)

    module _ (g : ltb 256 n ≡ false) where
      pub line-columns : ltb 16 columns ≡ true → refused 2 ≡ first (shape_lines n columns x labels out assigned)
      unfolding shape_lines first
      line-columns k = rw (h, g, k)

      pub line-value : ltb 16 columns ≡ false → any bad_coordinate x ≡ true → refused 3 ≡ first (shape_lines n columns x labels out assigned)
      unfolding shape_lines first
      line-value k v = rw (h, g, k, v)

      pub line-none : ltb 16 columns ≡ false → any bad_coordinate x ≡ false → passed ≡ first (shape_lines n columns x labels out assigned)
      unfolding shape_lines first
      line-none k v = rw (h, g, k, v)

-- what the lengths are where none of them holds
pub record Shaped (n columns : ℕ) (x : List Float) (labels out assigned : ℕ) : Type 0 where
  pub coordinates : length x ≡ n * columns
  pub labelled : labels ≡ n
  pub few : n ≤ 256
  pub narrow : columns ≤ 16
  pub room : columns + n * columns ≤ out
  pub places : n ≤ assigned

pub passed-shape : (n columns : ℕ) (x : List Float) (labels out assigned : ℕ) → passed ≡ first (shape_lines n columns x labels out assigned)
    → Shaped n columns x labels out assigned
unfolding shape_lines misfits
passed-shape n columns x labels out assigned e =
    let one = first-passed 1 _ (misfits n columns (length x) labels out assigned) e in
    let two = first-passed 2 _ (ltb 256 n || ltb 16 columns) one.1 in
    let limits = or-neither (ltb 256 n) (ltb 16 columns) two.0 in
    let lengths = or-neither (not (eqb (length x) (n * columns)) || not (eqb labels n)) _ one.0 in
    let inputs = or-neither (not (eqb (length x) (n * columns))) (not (eqb labels n)) lengths.0 in
    let at = long-at (out ∷ assigned ∷ []) (dapc_asks n columns) lengths.1 in
    record {
      coordinates = eqb-true (length x) (n * columns) (not-false _ inputs.0);
      labelled = eqb-true labels n (not-false _ inputs.1);
      few = ltb-false 256 n limits.0;
      narrow = ltb-false 16 columns limits.1;
      room = at 0 (omega arith) (omega arith);
      places = at 1 (omega arith) (omega arith);
    }

-- ---- lines 5 and 9

module _ (columns m g : ℕ) where
  pub line-labels : ltb g 2 ≡ true → refused 5 ≡ first (group_lines columns m g)
  unfolding group_lines first
  line-labels h = rw h

  pub line-leading : ltb g 2 ≡ false → ltb (columns_used columns m g) 2 ≡ true → refused 9 ≡ first (group_lines columns m g)
  unfolding group_lines first
  line-leading h k = rw (h, k)

  pub line-passed : ltb g 2 ≡ false → ltb (columns_used columns m g) 2 ≡ false → passed ≡ first (group_lines columns m g)
  unfolding group_lines first
  line-passed h k = rw (h, k)

  pub passed-groups : passed ≡ first (group_lines columns m g) → (2 ≤ g) × (2 ≤ columns_used columns m g)
  unfolding group_lines
  passed-groups e =
      let one = first-passed 5 _ (ltb g 2) e in
      let two = first-passed 9 _ (ltb (columns_used columns m g) 2) one.1 in
      (ltb-false g 2 one.0, ltb-false (columns_used columns m g) 2 two.0)
