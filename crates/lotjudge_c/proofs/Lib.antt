-- What the functions for other languages return, by what the operations answer.
pub mod Exports
pub mod Unread
