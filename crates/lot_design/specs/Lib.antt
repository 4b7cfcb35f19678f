-- Section 2 of document 01: groups on their samples.
-- Section 2 of document 01: which strata inform, told in turn.
-- The design of a lot.
pub mod inner
