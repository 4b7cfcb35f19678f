-- The laws of writing.
pub mod Writing
pub mod Patterns
pub mod Printing
