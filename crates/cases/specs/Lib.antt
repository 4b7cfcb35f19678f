-- Section 7's example (document 01).
-- Judged samples of the trade.
pub mod Text
pub mod Example
pub mod Cases
