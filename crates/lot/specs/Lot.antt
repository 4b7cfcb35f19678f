-- A lot: what the tests are given. Definitions only.
use Rattle.std.specs.Prelude.{ℕ, Bool, List, Float}

-- n samples: n by n distances row by row, a label for each, a stratum for each where strata are given, a weight for each where weights are
pub record Lot : Type 0 where
  pub n : ℕ
  pub distances : List Float
  pub labels : List ℕ
  pub stratified : Bool
  pub strata : List ℕ
  pub weighted : Bool
  pub weights : List Float

-- the lot that slices hold
abbrev pub lot_of : ℕ → List Float → List ℕ → Bool → List ℕ → Bool → List Float → Lot
lot_of n d labels stratified strata weighted w =
    record { n = n; distances = d; labels = labels; stratified = stratified; strata = strata; weighted = weighted; weights = w }
