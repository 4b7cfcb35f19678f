-- The laws of floats. Their words are `HasValue` of the toolchain and those of specs/Value.
-- Order and rounding, on which the tolerance law stands
-- what the tests of the functions say of their arguments
pub mod Tests
pub mod Signed
pub mod Value
pub mod Nan
pub mod Units
pub mod Order
pub mod Rank
pub mod Rounding
pub mod Sum
pub mod Product
pub mod Equal
pub mod Whole
pub mod Tolerance
pub mod Signs
pub mod Library
