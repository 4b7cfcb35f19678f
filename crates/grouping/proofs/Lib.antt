-- The laws of the counting sort.
pub mod CountingSort
pub mod SortPasses
pub mod SortedParts
