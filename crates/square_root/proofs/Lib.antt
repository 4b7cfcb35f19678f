-- The laws of the square root: `root` is IEEE 754's (`root-nearest`, `nearest-unique`), and two of document 01's cases
pub mod Isqrt
pub mod Nearest
pub mod Library
pub mod Cases
