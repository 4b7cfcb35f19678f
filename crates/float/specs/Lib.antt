-- Section 1 of document 01: floats, their values and their order. Then the tolerance of sections 6 and 8, and whole numbers as floats (section 2).
pub mod Floats
pub mod Value
pub mod Order
pub mod Tolerance
pub mod inner
