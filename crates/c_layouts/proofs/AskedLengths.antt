-- How the lengths asked are told.
use Rattle.lists.proofs.Base.{ℕ, ◌+◌, ◌*◌, ◌≡◌, ◌<◌, ◌≤◌, refl, ap, ◌∙◌, Bool, true, false, ◌||◌, List, [], ◌∷◌, ltb, lt-ltb, le-ltb}
use Rattle.std.specs.Prelude.{Result, Err}
use Rattle.outcome.specs.declared.Refusal.{Refusal}
use Rattle.outcome.specs.declared.Refusal.TheVariants.{Limit}
use Rattle.outcome.specs.Numbers.{outcome_of}
use Rattle.outcome.specs.Outcome.{Outcome, answered, refused}
use Rattle.permanova.specs.Call.{test_asks}
use Rattle.exhaustive_hits.specs.Call.{exhaustive_asks}
use Rattle.ordination_coordinates.specs.Lengths.{pcoa_asks, hash_pca_asks}
use Rattle.eigen_jacobi.specs.Call.{jacobi_asks}
use Rattle.eigen_top.specs.TopLines.{top_asks}
use Rattle.ordination_sets.specs.Lines.{gram_asks}
use Rattle.c_layouts.specs.Coded.{Coded, coded, coded_as, same}
use Rattle.c_layouts.specs.Lengths.{asked, tell, told}

-- past a limit, and within all
module _ {b : Bool} (lengths : List ℕ) where
  pub past : b ≡ true → refused 2 ≡ asked b lengths
  unfolding asked
  past e = rw e refl

  pub beyond : {r : Result (List ℕ) Refusal} {e : Refusal} → r ≡ Err e → e ≡ Limit → b ≡ true → outcome_of r ≡ asked b lengths
  unfolding asked
  beyond h el eb = rw (h, el, eb) refl

  pub within : {l : List ℕ} → b ≡ false → l ≡ lengths → answered l ≡ asked b lengths
  unfolding asked
  within eb e = rw eb (ap answered e)

-- past a limit of n, or of what else is asked, and within both
module _ (n : ℕ) (c : Bool) where
  pub many : 256 < n → (ltb 256 n || c) ≡ true
  many h = ap (λ (b : Bool). b || c) (lt-ltb 256 n h)

  pub other : n ≤ 256 → {b : Bool} → c ≡ b → (ltb 256 n || c) ≡ b
  other h e = ap (λ (b : Bool). b || c) (le-ltb 256 n h) ∙ e

-- ---- the lengths, of n, of n times n and of the first output

pub test-asked : (n : ℕ) {q : ℕ} → q ≡ n * n → n ∷ n ∷ n ∷ q ∷ q ∷ [] ≡ test_asks n
test-asked n e = rw e refl

pub exhaustive-asked : (n : ℕ) {q : ℕ} → q ≡ n * n → n ∷ n ∷ n ∷ q ∷ q ∷ (16 + 8 * n) ∷ (n + q) ∷ q ∷ q ∷ [] ≡ exhaustive_asks n
exhaustive-asked n e = rw e refl

pub pcoa-asked : (n : ℕ) {out k l q : ℕ} → out ≡ k + k + n * k → k ≡ l → q ≡ n * n → out ∷ q ∷ (n + q) ∷ q ∷ q ∷ [] ≡ pcoa_asks n l
pcoa-asked n e f g = rw (e, f, g) refl

pub hash-pca-asked : (n : ℕ) {out k l q : ℕ} → out ≡ k + k + n * k → k ≡ l → q ≡ n * n → out ∷ q ∷ (n + q) ∷ q ∷ q ∷ n * 16 ∷ [] ≡ hash_pca_asks n l
hash-pca-asked n e f g = rw (e, f, g) refl

pub jacobi-asked : (n : ℕ) {q : ℕ} → q ≡ n * n → (n + q) ∷ q ∷ q ∷ [] ≡ jacobi_asks n
jacobi-asked n e = rw e refl

pub top-asked : (n : ℕ) {out k l q : ℕ} → out ≡ k + k * n → k ≡ l → q ≡ n * n → out ∷ (n + q) ∷ q ∷ q ∷ [] ≡ top_asks n l
top-asked n e f g = rw (e, f, g) refl

pub gram-asked : (n : ℕ) {q : ℕ} → q ≡ n * n → q ∷ n * 16 ∷ [] ≡ gram_asks n
gram-asked n e = rw e refl

-- ---- laid out as they are told

told_by : (b : Bool) (lengths before : List ℕ) → let c = coded same (asked b lengths) before in told c.code c.parts ≡ tell b lengths before
unfolding coded asked tell
told_by true lengths before = refl
told_by false lengths before = refl

pub told-laid : (b : Bool) (lengths before : List ℕ) {after : List ℕ} {code : ℕ} {o : Outcome (List ℕ)} → o ≡ asked b lengths → coded_as code after ≡ coded same o before
    → told code after ≡ tell b lengths before
told-laid b lengths before e h =
    ap (λ (c : Coded (List ℕ)). told c.code c.parts) (h ∙ ap (λ (o : Outcome (List ℕ)). coded same o before) e) ∙ told_by b lengths before
