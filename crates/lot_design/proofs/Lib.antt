-- The laws of groups on their samples.
-- What a description and a design say of each other, labels left out, and what is known of an accepted lot.
pub mod PlacedGroups
pub mod LabelsLeftOut
mod Insertion
pub mod Designs
pub mod Accepted
pub mod LoopTurns
