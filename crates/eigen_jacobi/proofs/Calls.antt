-- What a call finds, and what it leaves in everything lent.
use Rattle.lists.proofs.Base.{◌≡◌, refl, sym, ap, ap₂, ◌∙◌, Bool, true, false, List, [], ◌∷◌, ◌++◌, ℕ, ◌+◌, ◌*◌, ◌≤◌, arith, not-false, eqb-true, ltb-false}
use Rattle.lists.proofs.Base.{ltb, length, take, drop, replicate, length-map, length-append, length-replicate, take_at, drop_at, Float, is_nan}
use Rattle.float.specs.Floats.{zero⁺}
use Rattle.lists.specs.{Filters.any, Filters.all, Writes.over, Writes.cleared}
use Rattle.lists.proofs.{Ranges.length-rows, Writes.over-all, Truths.or-neither}
use Rattle.outcome.specs.declared.Refusal.TheVariants.{Unordered}
use Rattle.outcome.specs.Refusals.{first, unfit}
use Rattle.outcome.specs.Outcome.{Outcome, Told, answered, refused, passed, judged, and_then}
use Rattle.outcome.specs.Slices.{output, work, untouched}
use Rattle.outcome.specs.declared.Refusal.{Refusal}
use Rattle.std.specs.Prelude.{Result, Ok, Err}
use Rattle.eigen_rotations.specs.{Rotation.turned, Sweeps.Swept, Sweeps.swept, Sweeps.sweeps_from, Diagonal.identity, Diagonal.diagonal}
use Rattle.eigen_jacobi.specs.{Descending.descending, Descending.values_in, Descending.vectors_in, Eigen.Eigen, Eigen.eigenpairs, Eigen.jacobi}
use Rattle.eigen_jacobi.proofs.{OutputFronts.output-front, DescendingOrder.length-descending, DescendingOrder.descending-below, GatheredRows.length-gathered}
use Rattle.eigen_jacobi.specs.Call.{jacobi_asks, misfits, jacobi_lines, sweeps_of, written, Called, leaves, jacobi_call, outcome_of, called}
use Rattle.eigen_jacobi.specs.inner.Call.{eigen_of, Solved, solved, solution}
use Rattle.eigen_matrix.specs.Finite.{not_finite}
use Rattle.outcome.proofs.{Table.first-passed, Table.first-untouched, Lengths.long-at}

-- ---- how many values and how many entries of vectors are written

pub length-values : (d : List Float) → length (values_in (descending d) d) ≡ length d
unfolding values_in
length-values d = length-map (descending d) _ ∙ length-descending d

pub length-vectors : (n : ℕ) (d v : List Float) → length d ≡ n → length v ≡ n * n → length (vectors_in (descending d) n v) ≡ n * n
unfolding vectors_in
length-vectors n d v hd hv =
    let below = rw hd at (descending-below d) in length-rows n _ n (λ i _. length-gathered n v (descending d) hv (length-descending d ∙ hd) below i)

-- ---- what is found, of what the sweeps left: the diagonal d, and the vectors v

module _ (n : ℕ) (a : List Float) {m v d : List Float} {k : ℕ} (e : swept k (turned m v) ≡ sweeps_from 100 n 0 (turned a (identity n))) (f : d ≡ diagonal n m) where
  nan-there : {b : Bool} → any is_nan d ≡ b → any is_nan (diagonal n m) ≡ b
  nan-there t = ap (any is_nan) (sym f) ∙ t

  jacobi-unordered : any is_nan d ≡ true → refused 11 ≡ jacobi n a
  unfolding jacobi eigenpairs
  jacobi-unordered t = let here : refused 11 ≡ eigenpairs n (swept k (turned m v)) = rw (nan-there t, eigenpairs) in here ∙ ap (eigenpairs n) e

  jacobi-ordered : any is_nan d ≡ false → answered (record { values = values_in (descending d) d; vectors = vectors_in (descending d) n v; sweeps = k }) ≡ jacobi n a
  unfolding jacobi eigenpairs
  jacobi-ordered t =
      let here : answered (record { values = values_in (descending d) d; vectors = vectors_in (descending d) n v; sweeps = k }) ≡ eigenpairs n (swept k (turned m v)) =
      rw (f, nan-there t, eigenpairs) in here ∙ ap (eigenpairs n) e

  -- the output, of just the length, is zero, or holds the values and the vectors
  module _ (out : List Float) (len : length out ≡ n + n * n) {out' : List Float} where
    pub solved-unordered : any is_nan d ≡ true → out' ≡ cleared zero⁺ out → solved n (Err Unordered) out' ≡ solution n a out
    unfolding solution written output cleared
    solved-unordered t h =
        let found = jacobi-unordered t in
        let many = length-replicate (n + n * n) zero⁺ in
        let all : out' ≡ over (replicate (n + n * n) zero⁺) out =
        h ∙ ap (λ (j : ℕ). replicate j zero⁺) len ∙ sym (over-all (replicate (n + n * n) zero⁺) out (omega arith)) in
        ap₂ (λ (o : Outcome Eigen) (l : List Float). record { found = o; out = l }) found (all ∙ ap (λ (o : Outcome Eigen). written n o out) found)

    pub solved-ordered : length d ≡ n → length v ≡ n * n → any is_nan d ≡ false → out' ≡ values_in (descending d) d ++ vectors_in (descending d) n v →
        solved n (Ok k) out' ≡ solution n a out
    unfolding solution written output
    solved-ordered hd hv t h =
        let values = values_in (descending d) d in
        let vectors = vectors_in (descending d) n v in
        let many = length-values d ∙ hd in
        let more = length-vectors n d v hd hv in
        let both = length-append values vectors in
        let front : take n out' ≡ values = ap (take n) h ∙ take_at values vectors n many in
        let back : drop n out' ≡ vectors = ap (drop n) h ∙ drop_at values vectors n many in
        let found : eigen_of n (Ok k) out' ≡ jacobi n a =
        ap₂ (λ (x y : List Float). answered (record { values = x; vectors = y; sweeps = k })) front back ∙ jacobi-ordered t in
        let all : out' ≡ over (values ++ vectors) out = h ∙ sym (over-all (values ++ vectors) out (omega arith)) in
        ap₂ (λ (o : Outcome Eigen) (l : List Float). record { found = o; out = l }) found (all ∙ ap (λ (o : Outcome Eigen). written n o out) (jacobi-ordered t))

-- what a caller of `eigen` learns: the answer and the output, read together, are what is found; and the output itself
module _ (n : ℕ) (a out : List Float) (r : Result ℕ Refusal) {out' : List Float} (e : solved n r out' ≡ solution n a out) where
  pub solved-found : eigen_of n r out' ≡ jacobi n a
  unfolding solution
  solved-found = ap (λ (s : Solved). s.found) e

  pub solved-out : out' ≡ written n (jacobi n a) out
  unfolding solution
  solved-out = ap (λ (s : Solved). s.out) e

-- ---- the same on slices that may be longer, with the work cleared

sweeps-read : (n : ℕ) (r : Result ℕ Refusal) (out : List Float) → outcome_of r ≡ sweeps_of (eigen_of n r out)
unfolding sweeps_of and_then
sweeps-read n (Ok k) out = refl
sweeps-read n (Err r) out = refl

-- the eigenpairs are refused for a NaN alone
pub only-unordered : (n : ℕ) (a : List Float) (k : ℕ) → refused k ≡ jacobi n a → k ≡ 11
unfolding jacobi eigenpairs
only-unordered n a k e = by (any is_nan (diagonal n (sweeps_from 100 n 0 (turned a (identity n))).left.matrix)) _ e
  where
    by : (b : Bool) (found : Eigen) → ◌≡◌ {A = Outcome Eigen} (refused k) (elim b as (λ b. Outcome Eigen) [ true ↦ refused 11 | false ↦ answered found ]) → k ≡ 11
    by true found e = cc
    by false found e = cc

-- 11 and an answer alike clear the work
jacobi-work : (n : ℕ) (a l : List Float) → cleared zero⁺ l ≡ work zero⁺ (jacobi n a) l
unfolding jacobi eigenpairs work
jacobi-work n a l = by (sweeps_from 100 n 0 (turned a (identity n))) _ refl
  where
    by : (w : Swept) (b : Bool) → any is_nan (diagonal n w.left.matrix) ≡ b → cleared zero⁺ l ≡ work zero⁺ (eigenpairs n w) l
    by w true t = rw (t, eigenpairs)
    by w false t = rw (t, eigenpairs)

module _ (n : ℕ) (a out m v : List Float) where
  pub solved-leaves : (r : Result ℕ Refusal) {part m' v' : List Float} → solved n r part ≡ solution n a (take (n + n * n) out) → length part ≡ n + n * n
      → m' ≡ cleared zero⁺ m → v' ≡ cleared zero⁺ v → called r (part ++ drop (n + n * n) out) m' v' ≡ leaves n (jacobi n a) out m v
  unfolding leaves written
  solved-leaves r {part} {m'} {v'} e many hm hv =
      let found = solved-found n a (take (n + n * n) out) r e in
      let answer : outcome_of r ≡ sweeps_of (jacobi n a) = sweeps-read n r part ∙ ap sweeps_of found in
      let first : part ++ drop (n + n * n) out ≡ written n (jacobi n a) out =
      output-front (λ e. e.values ++ e.vectors) (n + n * n) (jacobi n a) out many (solved-out n a (take (n + n * n) out) r e) in
      let m-is : m' ≡ work zero⁺ (jacobi n a) m = hm ∙ jacobi-work n a m in
      let v-is : v' ≡ work zero⁺ (jacobi n a) v = hv ∙ jacobi-work n a v in λ i. record { answer = answer i; out = first i; m = m-is i; v = v-is i }

  -- ---- a refused call leaves all as it was, and one that passes is what `jacobi` leaves

  untouched-line : {k : ℕ} → refused k ≡ first (jacobi_lines n a (length out) (length m) (length v)) → untouched k ≡ true
  unfolding jacobi_lines all
  untouched-line h = first-untouched (jacobi_lines n a (length out) (length m) (length v)) refl h

  pub call-refused : {k : ℕ} → refused k ≡ first (jacobi_lines n a (length out) (length m) (length v))
      → record { answer = refused k; out = out; m = m; v = v } ≡ jacobi_call n a out m v
  unfolding jacobi_call leaves sweeps_of and_then written output work
  call-refused {k} h =
      let kept : record { answer = refused k; out = out; m = m; v = v } ≡ leaves n (refused k) out m v = rw (untouched-line h) in
      kept ∙ ap (λ (t : Told). leaves n (judged t (jacobi n a)) out m v) h

  pub call-passed : {c : Called} → passed ≡ first (jacobi_lines n a (length out) (length m) (length v)) → c ≡ leaves n (jacobi n a) out m v → c ≡ jacobi_call n a out m v
  unfolding jacobi_call
  call-passed h e = e ∙ ap (λ (t : Told). leaves n (judged t (jacobi n a)) out m v) h

-- ---- the lines of the table, one by one

module _ (n : ℕ) (a : List Float) (out m v : ℕ) where
  pub line-length : misfits n a out m v ≡ true → refused 1 ≡ first (jacobi_lines n a out m v)
  unfolding jacobi_lines first
  line-length h = rw h

  module _ (h : misfits n a out m v ≡ false) where
    pub line-limit : ltb 256 n ≡ true → refused 2 ≡ first (jacobi_lines n a out m v)
    unfolding jacobi_lines first
    line-limit g = rw (h, g)

    pub line-value : ltb 256 n ≡ false → any not_finite a ≡ true → refused 3 ≡ first (jacobi_lines n a out m v)
    unfolding jacobi_lines first
    line-value g f = rw (h, g, f)

    pub line-none : ltb 256 n ≡ false → any not_finite a ≡ false → passed ≡ first (jacobi_lines n a out m v)
    unfolding jacobi_lines first
    line-none g f = rw (h, g, f)

-- ---- what the lengths are where no line holds

pub record Fits (n : ℕ) (a out m v : ℕ) : Type 0 where
  pub a-fits : a ≡ n * n
  pub out-fits : n + n * n ≤ out
  pub m-fits : n * n ≤ m
  pub v-fits : n * n ≤ v
  pub n-fits : n ≤ 256

pub passed-fits : (n : ℕ) (a : List Float) (out m v : ℕ) → passed ≡ first (jacobi_lines n a out m v) → Fits n (length a) out m v
unfolding jacobi_lines misfits
passed-fits n a out m v e =
    let one = first-passed 1 _ (misfits n a out m v) e in
    let two = first-passed 2 _ (ltb 256 n) one.1 in
    let lengths = or-neither (unfit a (n * n)) _ one.0 in
    let at = long-at (out ∷ m ∷ v ∷ []) (jacobi_asks n) lengths.1 in
    record {
      a-fits = eqb-true _ _ (not-false _ lengths.0);
      out-fits = at 0 (omega arith) (omega arith);
      m-fits = at 1 (omega arith) (omega arith);
      v-fits = at 2 (omega arith) (omega arith);
      n-fits = ltb-false _ _ two.0;
    }
