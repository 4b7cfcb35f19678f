-- What a lot that is judged has ready, and that what is counted is the lot's own.
-- The laws of slices that are cleared.
-- Coordinates in a lent slice are those of the ordination.
pub mod JudgedDesigns
pub mod LotCounts
pub mod RefusedCalls
pub mod LentCoordinates
