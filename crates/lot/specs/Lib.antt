-- A lot, and the first half of section 2 of document 01: kept samples, groups, strata, ways of the labels, lines 1 to 5.
pub mod Lot
pub mod Given
pub mod Kept
pub mod Strata
pub mod Way
pub mod Mirror
pub mod Lines
pub mod Cases
pub mod inner
