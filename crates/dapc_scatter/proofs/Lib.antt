-- Laws by which loops add up sums and counts and fill matrices.
-- The ridge, worked out and added.
-- The laws of scatter.
-- Means and scatter together, and the room that they take.
pub mod Adding
pub mod InPlace
pub mod Counting
pub mod Groups
pub mod MeanSums
pub mod RidgedDiagonals
pub mod Scatter
pub mod MomentsRoom
