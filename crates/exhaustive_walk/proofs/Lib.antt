-- The laws of a way's statistics.
-- The laws of the walk.
-- The laws of the hits among all ways.
pub mod WayStatisticsCases
pub mod WayAssignments
pub mod WalkCounts
pub mod WalkStart
