-- What only inner functions need: what they are asked, and what they leave. No reader of a public contract needs it.
pub mod Remaining
pub mod Order
pub mod Every
pub mod Ways
