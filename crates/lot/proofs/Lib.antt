-- The laws of a lot.
pub mod FilledFronts
pub mod Inserts
pub mod Samples
pub mod Numbering
pub mod Informing
pub mod Places
pub mod FewGroups
pub mod Mirrored
pub mod LineOrder
pub mod AcceptedLots
pub mod Transposed
pub mod Tallies
pub mod GroupsAndStrata
pub mod WaysOnSamples
pub mod Relabelled
pub mod Cases
