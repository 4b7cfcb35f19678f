-- Laws of an inner product's loop.
-- Laws of products.
pub mod Entries
pub mod ProductsEntries
