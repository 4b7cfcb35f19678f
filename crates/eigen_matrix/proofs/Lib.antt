-- The mean of a matrix and its transpose.
pub mod TransposeMeans
