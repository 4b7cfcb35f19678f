-- The laws that the proofs of `sampled_hits` share.
-- Both p and the answer from what the calls give.
-- The answer by the squares alone.
pub mod ShuffleHits
pub mod SampledAnswers
pub mod SameSquares
