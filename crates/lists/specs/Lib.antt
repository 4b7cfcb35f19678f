-- The words that the meanings of all sections share: ranges, loops, filters, sums, rows and writes.
pub mod Ranges
pub mod Loops
pub mod Filters
pub mod Numbers
pub mod Sums
pub mod Rows
pub mod Writes
pub mod inner
