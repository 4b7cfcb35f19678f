-- The lengths of what is solved.
-- The factor's rows.
pub mod SolvedLengths
pub mod Pivots
