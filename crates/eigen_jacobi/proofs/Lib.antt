-- What the proofs of the functions share.
-- What the proofs of the functions share.
pub mod DescendingOrder
pub mod GatheredRows
pub mod OutputFronts
pub mod Calls
pub mod Cases
