-- The exact case.
-- What is made of a design is what the lot's own definitions say.
-- The summary from its parts.
-- Statistics by the squares alone.
pub mod Exact
pub mod ExactExample
pub mod ObservedLots
pub mod SummaryParts
pub mod SameSquares
