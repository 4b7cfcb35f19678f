-- Section 7 of document 01: numbers in hexadecimal, and what printing leaves.
-- Section 7 of document 01, the output: the lines of a verdict or a refusal.
pub mod Hex
pub mod Page
pub mod Printed
pub mod inner
