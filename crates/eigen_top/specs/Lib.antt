-- Section 4 of document 01: `top_eigs` up to n = 64.
-- Section 4 of document 01: `top_eigs` above n = 64.
-- Section 4 of document 01: the lines of the table.
-- Section 4 of document 01: `top_eigs`.
pub mod Leading
pub mod Subspace
pub mod TopLines
pub mod TopEigs
pub mod Call
