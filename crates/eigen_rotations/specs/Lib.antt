-- Section 4 of document 01, `jacobi_eigen`: rotations.
-- Section 4 of document 01, `jacobi_eigen`: a sweep.
-- Section 4 of document 01, `jacobi_eigen`: the sweeps from a matrix and the identity, and the diagonal that they leave.
pub mod Rotation
pub mod Pairs
pub mod Sweeps
pub mod Diagonal
pub mod inner
