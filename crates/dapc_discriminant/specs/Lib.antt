-- Section 5 of document 01: discriminant scores, and what a call leaves.
-- Section 5 of document 01: what is asked on the way from the eigenpairs to the groups.
-- Section 5 of document 01: what is asked on the way from the scatter to the scores.
pub mod Dapc
pub mod Outputs
pub mod inner
