-- Lengths that fit, the lines of the table, and what the lengths are where no line holds.
use Rattle.lists.proofs.Base.{◌≡◌, refl, sym, ap, ap₂, ◌∙◌, Bool, false, ◌||◌, List, [], ◌∷◌, ◌++◌, map, ℕ, ◌+◌, ◌*◌, ◌≤◌, min, mul-le-mul}
use Rattle.lists.proofs.Base.{min-le_left, min-le_right, arith, not-false, eqb-true, ltb-false, eqb, ltb, length, Float}
use Rattle.outcome.specs.{Outcome.Told, Outcome.passed, Refusals.Line, Refusals.first, Refusals.unfit}
use Rattle.lists.proofs.Truths.{or-neither}
use Rattle.outcome.proofs.{Table.first-both, Lengths.long-at}
use Rattle.lot.specs.Lines.{size_lines, matrix_lines}
use Rattle.lot.proofs.AcceptedLots.{sizes-known}
use Rattle.ordination_coordinates.specs.{Lengths.pcoa_asks, Lengths.too_short, Lines.bad_components, Lines.few_lines, Lines.pcoa_lines}
use Rattle.ordination_coordinates.specs.inner.Lengths.{Room}

-- ---- lengths that fit n do not wrap

pub record Fitting (n k : ℕ) : Type 0 where
  pub twice : k + k ≤ 0xffff_ffff_ffff_ffff
  pub product : n * k ≤ 0xffff_ffff_ffff_ffff
  pub part : k + k + n * k ≤ 0xffff_ffff_ffff_ffff
  pub square : n * n ≤ 0xffff_ffff_ffff_ffff
  pub more : n + n * n ≤ 0xffff_ffff_ffff_ffff

pub fitting : (n k : ℕ) → k ≤ n → n ≤ 0xffff_ffff → Fitting n k
fitting n k h small =
    let most : n * n ≤ 0xffff_fffe_0000_0001 = mul-le-mul small small in
    let less : n * k ≤ n * n = mul-le-mul {n₁ = n} {m₁ = k} (omega arith) h in
    record { twice = omega arith; product = omega arith; part = omega arith; square = omega arith; more = omega arith }

-- slices that are long enough
pub long-enough : (k n out b w m v : ℕ) → too_short k n out b w m v ≡ false → Room k n out b w m v
unfolding too_short
long-enough k n out b w m v e =
    let at = long-at (out ∷ b ∷ w ∷ m ∷ v ∷ []) (pcoa_asks n k) e in
    record {
      out-fits = at 0 (omega arith) (omega arith);
      b-fits = at 1 (omega arith) (omega arith);
      w_fits = at 2 (omega arith) (omega arith);
      m-fits = at 3 (omega arith) (omega arith);
      v-fits = at 4 (omega arith) (omega arith);
    }

-- no more components than samples, and at most 16
pub record Asked (k n : ℕ) : Type 0 where
  pub below : k ≤ n
  pub most : k ≤ 16

pub asked : (components n : ℕ) {k : ℕ} → bad_components components ≡ false → k ≡ min components n → Asked k n
unfolding bad_components
asked components n {k} h e =
    let most : components ≤ 16 = ltb-false _ _ (or-neither (eqb components 0) (ltb 16 components) h).1 in
    record { below = omega (arith, min-le_right components n); most = omega (arith, min-le_left components n) }

-- ---- the lines of `pcoa`

module _ (components n : ℕ) (d : List Float) (out b w m v : ℕ) where
  abbrev pub misfit : ℕ → Bool
  misfit k = unfit d (n * n) || too_short k n out b w m v

  abbrev pub sizes_of : List Line
  sizes_of = size_lines (misfit (min components n)) n (bad_components components)

  -- lines 1 and 2 by what the code has found, for k leading components
  pub sizes-told : {k : ℕ} {x y : Bool} {t : Told} → k ≡ min components n → x ≡ misfit k → y ≡ bad_components components → t ≡ first (size_lines x n y) → t ≡ first sizes_of
  sizes-told e f g h = h ∙ ap₂ (λ (x y : Bool). first (size_lines x n y)) (f ∙ ap misfit e) g

-- where lines 1 and 2 do not hold
pub record Fits (k n d out b w m v : ℕ) : Type 0 where
  pub distances : d ≡ n * n
  pub few : n ≤ 256
  pub asks : Asked k n
  pub room : Room k n out b w m v

pub sized-fits : (components n : ℕ) (d : List Float) (out b w m v : ℕ) {k : ℕ} → k ≡ min components n → first (sizes_of components n d out b w m v) ≡ passed
    → Fits k n (length d) out b w m v
sized-fits components n d out b w m v {k} e p =
    let k' = min components n in
    let sized = sizes-known (misfit components n d out b w m v k') n (bad_components components) p in
    let one = or-neither (unfit d (n * n)) (too_short k' n out b w m v) sized.fit in
    record {
      distances = eqb-true _ _ (not-false _ one.0);
      few = sized.few;
      asks = asked components n sized.within e;
      room = rw e (long-enough k' n out b w m v one.1);
    }

-- where no line holds
pub passed-fits : (components n : ℕ) (d : List Float) (out b w m v : ℕ) {k : ℕ} → k ≡ min components n → passed ≡ first (pcoa_lines components n d out b w m v)
    → Fits k n (length d) out b w m v
unfolding pcoa_lines
passed-fits components n d out b w m v e p =
    sized-fits components n d out b w m v e (first-both (sizes_of components n d out b w m v) (matrix_lines n d ++ few_lines n) (sym p)).0

-- the numbers of the lines, in the order in which they are tested
pub tested-in-order : (components n : ℕ) (d : List Float) (out b w m v : ℕ) → map (λ (l : Line). l.returned) (pcoa_lines components n d out b w m v) ≡ 1 ∷ 2 ∷ 3 ∷ 14 ∷ 6 ∷ []
unfolding pcoa_lines
tested-in-order components n d out b w m v = refl
