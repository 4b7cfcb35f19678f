-- Entries of matrices.
-- Sections 4 and 5 of document 01: words of square matrices, row by row.
pub mod Finite
pub mod Trace
pub mod Symmetric
pub mod inner
