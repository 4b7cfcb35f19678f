-- A row of scores more, a sample more in its group's centroid.
-- A group more that may be nearer, a sample more that is assigned.
pub mod Scoring
pub mod Nearing
pub mod Assigning
