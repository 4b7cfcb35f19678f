-- What only inner functions need: what they are asked, and what they leave. No reader of a public contract needs it.
pub mod Symmetric
pub mod Rewriting
