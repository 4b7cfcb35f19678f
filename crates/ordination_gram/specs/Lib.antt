-- Rows of bits.
-- The matrix of sets of columns.
-- `gram_matrix` (document 01, section 4): the centred Gram matrix of sets of hashes, and a call of it.
pub mod Gram
pub mod Call
pub mod inner
