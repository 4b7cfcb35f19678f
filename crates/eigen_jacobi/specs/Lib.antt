-- Section 4 of document 01, `jacobi_eigen`: the order of the eigenpairs.
-- Section 4 of document 01: `jacobi_eigen`.
pub mod Descending
pub mod Eigen
pub mod Call
pub mod inner
