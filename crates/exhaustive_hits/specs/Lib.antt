-- Section 6 of document 01: hits of an assignment, and of all three statistics.
-- Section 6 of document 01: the answer, from what was observed and counted.
-- Section 6 of document 01: the exhaustive test, and demand 3.
pub mod WayHits
pub mod Exhaustive
pub mod Call
pub mod Level
pub mod Assignments
pub mod inner
