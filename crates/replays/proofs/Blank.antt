-- An array of n zeros has the length n: by a lemma, since to count takes long.
use Rattle.std.proofs.Common.{ℕ, ◌≡◌, length, sym}
use Rattle.std.proofs.Math.ListN.{replicate, length-replicate}

pub long-numbers : (n : ℕ) → n ≡ length (replicate {A = ℕ} n 0)
long-numbers n = sym (length-replicate {A = ℕ} n 0)
