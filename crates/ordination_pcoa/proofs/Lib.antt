-- What the proofs of the functions share.
-- The transposed matrix.
pub mod LateRefusals
pub mod FoundCoordinates
pub mod Calls
pub mod Transposed
