-- The lines of the table, and case (l).
-- The groups that labels give, and a whole call.
pub mod Lines
pub mod Cases
pub mod LabelGroups
pub mod Calls
