-- The lengths that are told are those that line 1 asks.
pub mod AskedLengths
