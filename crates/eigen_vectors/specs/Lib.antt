-- The words of vectors that sections 4 and 5 of document 01 use.
-- A matrix times a block.
pub mod Vectors
pub mod Products
pub mod inner
