-- The lines of the table, one by one, and what the arguments are where no line holds.
use Rattle.lists.proofs.Base.{◌≡◌, sym, ap, ◌∙◌, Bool, true, false, not, ◌||◌, List, [], ◌∷◌, ℕ, ◌+◌, ◌*◌, ◌≤◌, min}
use Rattle.lists.proofs.Base.{min-le_left, arith, not-false, eqb-true, ltb-false, eqb, ltb, length, Float}
use Rattle.lists.specs.Filters.{any}
use Rattle.lists.proofs.Truths.{or-neither}
use Rattle.outcome.specs.{Outcome.refused, Outcome.passed, Refusals.first}
use Rattle.outcome.proofs.{Table.first_holds, Table.first_passes, Table.first-passed, Lengths.long-at}
use Rattle.eigen_matrix.specs.Finite.{not_finite}
use Rattle.eigen_top.specs.TopLines.{top_asks, misfits, beyond, top_lines}

module _ (components n : ℕ) (a : List Float) (out w m v : ℕ) {k : ℕ} (is : k ≡ min components n) where
  told-misfits : {b : Bool} → misfits k n (length a) out w m v ≡ b → misfits (min components n) n (length a) out w m v ≡ b
  told-misfits h = ap (λ (j : ℕ). misfits j n (length a) out w m v) (sym is) ∙ h

  pub line-length : misfits k n (length a) out w m v ≡ true → refused 1 ≡ first (top_lines components n a out w m v)
  unfolding top_lines
  line-length h = sym (first_holds 1 _ (told-misfits h))

  module _ (h : misfits k n (length a) out w m v ≡ false) where
    pub line-limit : beyond n components ≡ true → refused 2 ≡ first (top_lines components n a out w m v)
    unfolding top_lines
    line-limit g = sym (first_passes 1 _ (told-misfits h) ∙ first_holds 2 _ g)

    module _ (g : beyond n components ≡ false) where
      pub line-value : any not_finite a ≡ true → refused 3 ≡ first (top_lines components n a out w m v)
      unfolding top_lines
      line-value f = sym (first_passes 1 _ (told-misfits h) ∙ first_passes 2 _ g ∙ first_holds 3 _ f)

      pub line-none : any not_finite a ≡ false → passed ≡ first (top_lines components n a out w m v)
      unfolding top_lines first
      line-none f = rw (told-misfits h, g, f)

-- ---- what the arguments are where no line holds

pub record Fits (k n : ℕ) (a out w m v : ℕ) : Type 0 where
  pub a-fits : a ≡ n * n
  pub out-fits : k + k * n ≤ out
  pub w_fits : n + n * n ≤ w
  pub m-fits : n * n ≤ m
  pub v-fits : n * n ≤ v
  pub n-fits : n ≤ 256
  pub k-fits : k ≤ 16

pub passed-fits : (components n : ℕ) (a : List Float) (out w m v : ℕ) → passed ≡ first (top_lines components n a out w m v) → Fits (min components n) n (length a) out w m v
unfolding top_lines misfits beyond
passed-fits components n a out w m v e =
    let k = min components n in
    let one = first-passed 1 _ (misfits k n (length a) out w m v) e in
    let two = first-passed 2 _ (beyond n components) one.1 in
    let lengths = or-neither (not (eqb (length a) (n * n))) _ one.0 in
    let at = long-at (out ∷ w ∷ m ∷ v ∷ []) (top_asks n k) lengths.1 in
    let limits = or-neither (ltb 256 n || eqb components 0) _ two.0 in
    let size = or-neither (ltb 256 n) _ limits.0 in
    let most = ltb-false 16 components limits.1 in
    record {
      a-fits = eqb-true _ _ (not-false _ lengths.0);
      out-fits = at 0 (omega arith) (omega arith);
      w_fits = at 1 (omega arith) (omega arith);
      m-fits = at 2 (omega arith) (omega arith);
      v-fits = at 3 (omega arith) (omega arith);
      n-fits = ltb-false _ _ size.0;
      k-fits = omega (arith, min-le_left components n);
    }
