-- Sections 6 and 8 of document 01: what a statistic says by itself. Hits, a p by cases, and the bits of the warnings.
pub mod Hits
pub mod PValues
pub mod WarningBits
pub mod Together
