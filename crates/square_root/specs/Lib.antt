-- Section 1 of document 01: the square root, by its units, and what IEEE 754 asks of it.
pub mod Root
pub mod Nearest
