-- Section 7 of document 01: what is found of a lot.
-- Section 7 of document 01: from the whole input to the whole output.
pub mod Judged
pub mod Judge
pub mod inner
