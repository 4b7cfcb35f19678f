-- Section 4 of document 01: `hash_pca`.
pub mod Call
