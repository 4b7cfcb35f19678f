-- Section 5 of document 01: equations with a triangle.
-- Section 5 of document 01: the Cholesky factor.
-- Section 5 of document 01: the whitened matrix.
pub mod Triangular
pub mod Cholesky
pub mod Whitened
