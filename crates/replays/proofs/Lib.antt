-- Lengths of arrays of zeros.
pub mod Blank
