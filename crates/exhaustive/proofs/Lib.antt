-- Whether a slice is short.
-- What is known of a call that the lines let pass, and a whole call.
pub mod PassedLines
pub mod Calls
