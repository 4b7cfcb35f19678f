-- The second half of section 2 of document 01: total, within, F and r2.
pub mod Location
