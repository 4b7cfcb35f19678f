-- What the proofs of the functions share.
-- What the proofs of the functions share.
pub mod RitzLengths
pub mod FoundPairs
