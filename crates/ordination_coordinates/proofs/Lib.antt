-- Matrices filled row after row.
-- A branch by a test.
-- The two parts of an output.
-- The lines, one by one.
-- The transposed matrix.
pub mod Grids
pub mod BranchCases
pub mod OutputParts
pub mod Lines
pub mod HashPcaLengths
pub mod Transposed
