-- What only inner functions need: what they are asked, and what they leave. No reader of a public contract needs it.
pub mod Filling
pub mod Parts
pub mod Passes
