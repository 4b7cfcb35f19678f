-- Section 6 of document 01: the statistics of one way.
-- Section 6 of document 01: the walk with three hit counts.
pub mod inner
