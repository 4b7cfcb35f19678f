-- What the proofs of the functions share.
-- What the proofs of the functions share.
pub mod RowsApart
pub mod Rotation
pub mod IdentityRows
pub mod Sweeping
