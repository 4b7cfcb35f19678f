-- Section 4 of document 01: a block made orthonormal, and the first block.
-- Section 4 of document 01: the bound of the spectral radius.
-- Section 4 of document 01: the block iteration of `top_eigs` above n = 64.
pub mod Orthonormal
pub mod Power
pub mod Rounds
