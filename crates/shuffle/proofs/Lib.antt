-- The laws that the proofs of `shuffles` share.
pub mod Draws
pub mod Shuffles
