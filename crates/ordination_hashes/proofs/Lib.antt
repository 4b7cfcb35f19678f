-- The laws of distributing and of the order that it makes.
-- The selected hashes, stretch by stretch, each in runs as long as a hash is frequent; and a hash looked up among them.
pub mod Distributing
pub mod DigitSorting
pub mod Upward
pub mod StoredMembers
pub mod Runs
pub mod Scans
pub mod Stretches
pub mod Lookup
