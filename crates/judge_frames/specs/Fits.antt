-- What holds of every lot that is read: at most 32 samples, its parts fit n, no weights, symmetric, diagonal 0. Statements only.
use Rattle.std.specs.Prelude.{ℕ, ◌*◌, ◌<◌, ◌≤◌, ◌≡◌, false, [], length}
use Rattle.float.specs.Floats.{zero⁺}
use Rattle.lists.specs.Rows.{entry}
use Rattle.lot.specs.Lot.{Lot}

pub record Fits (lot : Lot) : Type 0 where
  pub few : lot.n ≤ 32
  pub labels : length lot.labels ≡ lot.n
  pub strata : length lot.strata ≡ lot.n
  pub distances : length lot.distances ≡ lot.n * lot.n
  pub unweighted : lot.weighted ≡ false
  pub weights : lot.weights ≡ []
  pub symmetric : (i j : ℕ) → i < lot.n → j < lot.n → entry lot.n lot.distances i j ≡ entry lot.n lot.distances j i
  pub diagonal : (i : ℕ) → i < lot.n → entry lot.n lot.distances i i ≡ zero⁺
