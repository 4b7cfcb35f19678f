-- The theorems on the lot judge in one place.
pub mod Theorems
