-- Section 4 of document 01: sets of hashes, and the table's lines for them.
pub mod Sets
pub mod Lines
pub mod inner
