-- Section 8 of document 01: the hits of shuffles.
-- Section 8 of document 01: p of both statistics, and what an accepted lot is answered.
pub mod Drawn
pub mod Sampled
pub mod Tested
pub mod inner
