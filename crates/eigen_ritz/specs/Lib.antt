-- Section 4 of document 01: the small matrix of a block.
-- Section 4 of document 01: vectors turned back.
-- Section 4 of document 01: the Rayleigh-Ritz step of `top_eigs`.
pub mod Projected
pub mod RitzVectors
pub mod Ritz
pub mod Given
pub mod inner
