-- The ANOVA by parts of a list of members.
-- The laws that the proofs of `dispersion` share.
pub mod AnovaOnParts
pub mod Residuals
pub mod ValuesOnParts
