-- Sections 4 and 8 of document 01: SplitMix64 and an f64 drawn from it.
pub mod SplitMix
