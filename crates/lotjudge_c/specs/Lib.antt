-- The functions for other languages: what they return and write.
pub mod Exported
