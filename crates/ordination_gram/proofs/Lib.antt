-- The laws of packed truths, and of the columns that a set has.
-- A set's bits and sums, a matrix filled and mirrored row by row, and what the loops leave is the matrix of columns.
-- The matrix of the columns is the Gram matrix of the definition, and what a call leaves.
pub mod Bits
pub mod SharedColumns
pub mod MeanSums
pub mod Marks
pub mod MirroredRows
pub mod FilledMatrix
pub mod GramOfColumns
pub mod GramCalls
pub mod Cases
