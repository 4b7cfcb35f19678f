-- Section 4 of document 01: Gower's centred matrix.
-- Section 4 of document 01: the signs of components.
-- Section 4 of document 01: coordinates of samples from eigenpairs, `pcoa` and `hash_pca`.
-- Section 4 of document 01: the lines of the table.
pub mod Centred
pub mod Signs
pub mod Finish
pub mod Pcoa
pub mod Lengths
pub mod Lines
pub mod inner
