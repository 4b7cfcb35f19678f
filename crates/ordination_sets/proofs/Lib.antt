-- What holds of sets that no line turns away, and the order of the lines.
pub mod AcceptedSets
pub mod LineOrder
pub mod OffsetTests
