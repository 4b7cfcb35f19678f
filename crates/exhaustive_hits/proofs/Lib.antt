-- The laws of hits.
-- Demand 3, and what of the judged samples of the trade speaks of every way.
-- The transposed matrix.
pub mod Given
pub mod WaysHandedIn
pub mod HitLevels
pub mod SameStatistics
pub mod Uninformed
pub mod Lines
pub mod Demand
pub mod Cases
pub mod Transposed
pub mod Unread
