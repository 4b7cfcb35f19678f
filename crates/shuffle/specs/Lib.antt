-- Section 8 of document 01: shuffles within strata.
pub mod Shuffle
pub mod Shuffled
pub mod inner
