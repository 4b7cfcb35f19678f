-- What the proofs of the functions share.
-- What the proofs of the functions share.
-- The lines, one by one.
-- What the proofs of the functions share.
pub mod LeadingFronts
pub mod BlockPairs
pub mod Lines
pub mod TopPairs
pub mod Calls
pub mod Cases
