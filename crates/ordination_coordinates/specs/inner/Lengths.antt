-- Slices that are long enough for `pcoa` and `hash_pca`. Statements only.
use Rattle.std.specs.Prelude.{ℕ, ◌+◌, ◌*◌, ◌≤◌}
use Rattle.limits.specs.Limits.{selected_words}

-- for `pcoa`
pub record Room (k n out b w m v : ℕ) : Type 0 where
  pub out-fits : k + k + n * k ≤ out
  pub b-fits : n * n ≤ b
  pub w_fits : n + n * n ≤ w
  pub m-fits : n * n ≤ m
  pub v-fits : n * n ≤ v

-- for `hash_pca`
pub record Lent (k n out b w m v words : ℕ) : Type 0 where
  pub room : Room k n out b w m v
  pub sets : n * selected_words ≤ words
