-- An inner product, entry after entry.
use Rattle.lists.proofs.Base.{◌≡◌, refl, sym, ap, ◌∙◌, ℕ, ◌+◌, ◌<◌, ◌≤◌, length, get_or, Float, nan}
use mathlib.Core.List.{List, map}
use Rattle.float.specs.Floats.{◌⊕◌, ◌⊗◌, zero⁻}
use Rattle.lists.specs.{Ranges.range, Sums.sum_from}
use Rattle.lists.proofs.{Sums.sum-turn, Sums.sum-end, Sums.sum-table}
use Rattle.lists.proofs.Zips.{zip-table}
use Rattle.eigen_vectors.specs.Vectors.{dot}

-- ---- an inner product: with the products from entry i on, s is the whole

abbrev pub product : List Float → List Float → ℕ → Float
product x y i = get_or x i nan ⊗ get_or y i nan

pub record Summing (x y : List Float) (s : Float) (i : ℕ) : Type 0 where
  pub left : sum_from s (map (product x y) (range i (length x))) ≡ dot x y

module _ (x y : List Float) where
  pub summing-none : length x ≡ length y → Summing x y zero⁻ 0
  unfolding dot
  summing-none e = record { left = sym (sum-table zero⁻ (length x) (product x y)) ∙ ap (sum_from zero⁻) (zip-table (λ u v. u ⊗ v) x y nan nan e) }

  pub summing-next : {s : Float} {i : ℕ} → i < length x → Summing x y s i → Summing x y (s ⊕ product x y i) (i + 1)
  summing-next {s} {i} h w = record { left = sum-turn (product x y) s i (length x) h refl refl w.left }

  -- the same with the entries of that place, and the next place, by other names
  pub summing-turn : {s u v : Float} {i j : ℕ} → i < length x → u ≡ get_or x i nan → v ≡ get_or y i nan → j ≡ i + 1 → Summing x y s i → Summing x y (s ⊕ u ⊗ v) j
  summing-turn h p q e w = rw (p, q, e) (summing-next h w)

  pub summing-all : {s : Float} {i : ℕ} → length x ≤ i → Summing x y s i → s ≡ dot x y
  summing-all {s} {i} h w = sum-end (product x y) s i (length x) h w.left
