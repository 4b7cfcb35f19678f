-- What only inner functions need: what they are asked. No reader of a public contract needs it.
pub mod Judging
