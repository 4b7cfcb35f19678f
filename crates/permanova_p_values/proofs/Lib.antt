-- The largest and the smallest group, the bits of the warnings, and how many hits there can be.
pub mod PValueCases
pub mod JointWarnings
