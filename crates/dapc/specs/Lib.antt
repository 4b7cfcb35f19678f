-- Section 5 of document 01: the lines of the table.
-- Section 5 of document 01: a whole call of `dapc`.
pub mod DapcLines
pub mod Call
pub mod inner
