-- Section 7's example.
-- Judged samples of the trade.
pub mod ExampleReading
pub mod ExampleOrdination
pub mod ExampleVerdict
pub mod ExampleJudged
pub mod TestCalls
pub mod CaseOrdinations
pub mod ExhaustiveCalls
pub mod DapcCalls
pub mod JudgedCases
