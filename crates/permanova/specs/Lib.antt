-- Section 8 of document 01: the sampled test.
pub mod Call
pub mod inner
