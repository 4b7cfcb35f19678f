-- What only inner functions need: what they are asked, and what they leave. No reader of a public contract needs it.
pub mod Hits
pub mod Measurement
pub mod Neither
pub mod Drawn
pub mod Tested
