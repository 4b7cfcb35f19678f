-- What `judge_lot` is asked of a lot. Statements only.
use Rattle.std.specs.Prelude.{◌≤◌, ◌≡◌, false}
use Rattle.lists.specs.Filters.{any}
use Rattle.lot.specs.{Lot.Lot, Mirror.unmirrored, Lines.bad_distance, Lines.misfits}

-- of at most 32 samples, whose parts fit n; no weights; a matrix that mirrors itself where its distances are allowed
pub record Judging (lot : Lot) : Type 0 where
  pub few : lot.n ≤ 32
  pub well : misfits lot ≡ false
  pub unweighted : lot.weighted ≡ false
  pub mirrored : any bad_distance lot.distances ≡ false → unmirrored lot.n lot.distances ≡ false
