-- The laws of the ways.
-- The law of the level.
pub mod Distinct
pub mod DealtWays
pub mod Every
pub mod WayCounts
pub mod OneWay
pub mod CountsLeft
pub mod WayOrder
pub mod Cases
pub mod ListLevels
