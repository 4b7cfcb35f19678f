-- An operation's answer as a number and arrays, for other languages.
-- Line 1 of the table: the lengths that are asked.
pub mod Coded
pub mod Layouts
pub mod Lengths
