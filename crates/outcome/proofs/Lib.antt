-- The laws of the table, and that no two refusals have one number.
pub mod Table
pub mod Lengths
pub mod Names
