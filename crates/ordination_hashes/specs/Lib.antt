-- Section 4 of document 01: the selected hashes, and their columns. Sorting the places of a list by distributing them digit by digit.
pub mod Selected
pub mod inner
