-- What is printed of standard input.
pub mod Reading
