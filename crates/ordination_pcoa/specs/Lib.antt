-- Section 4 of document 01: `pcoa`.
pub mod Given
pub mod Call
pub mod inner
