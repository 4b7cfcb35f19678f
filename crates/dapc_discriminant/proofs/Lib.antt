-- How many columns lead, and outputs whose front is cleared.
-- What the outputs hold at each step, and the room that the steps take.
-- By the pivots, by the eigenpairs, and from the coordinates; the room of a matrix.
pub mod Outputs
pub mod AllocationOutputs
pub mod DiscriminantCases
