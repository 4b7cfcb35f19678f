-- The array has its length.
use Rattle.replays.proofs.Blank.{long-numbers}
use Rattle.replays.proofs.with_room.Goals as goal

pub slice_bounds-all-end : goal.slice_bounds-all-end
slice_bounds-all-end g c = long-numbers 640000
