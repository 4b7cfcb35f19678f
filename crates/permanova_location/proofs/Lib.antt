-- A group's part of within, and sums over groups.
pub mod GroupSums
