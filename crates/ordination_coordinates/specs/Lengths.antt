-- Section 4: line 1 of the table for the slices of `pcoa` and `hash_pca`, of these lengths, for n samples on k components. Definitions only.
use Rattle.std.specs.Prelude.{ℕ, ◌+◌, ◌*◌, Bool, List, [], ◌∷◌, ◌++◌}
use Rattle.limits.specs.Limits.{selected_words}
use Rattle.outcome.specs.Refusals.{short}

-- `pcoa`: the output must hold k values, k shares and coordinates n by k; then b, w, m and v
abbrev pub pcoa_asks : ℕ → ℕ → List ℕ
pcoa_asks n k = (k + k + n * k) ∷ n * n ∷ (n + n * n) ∷ n * n ∷ n * n ∷ []

unfoldable pub too_short : ℕ → ℕ → ℕ → ℕ → ℕ → ℕ → ℕ → Bool
too_short k n out b w m v = short (out ∷ b ∷ w ∷ m ∷ v ∷ []) (pcoa_asks n k)

-- `hash_pca`: the same, and `words` must hold a bit for each hash that can be selected, for each sample
abbrev pub hash_pca_asks : ℕ → ℕ → List ℕ
hash_pca_asks n k = pcoa_asks n k ++ (n * selected_words ∷ [])

unfoldable pub lacking : ℕ → ℕ → ℕ → ℕ → ℕ → ℕ → ℕ → ℕ → Bool
lacking k n out b w m v words = short (out ∷ b ∷ w ∷ m ∷ v ∷ words ∷ []) (hash_pca_asks n k)
