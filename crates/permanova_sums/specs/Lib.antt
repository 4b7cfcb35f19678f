-- Section 2 of document 01: squares and weights of the kept samples.
-- Section 2 of document 01: sums over pairs.
pub mod Squares
pub mod PairSums
pub mod inner
