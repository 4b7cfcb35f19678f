-- The laws of hexadecimal fields, frames, lines and the end; of pairs and stages; of texts.
pub mod HexFields
pub mod TextLines
mod EndFrames
pub mod PairCells
mod Patterns
pub mod TakenFrames
pub mod Pairing
pub mod ReadStages
pub mod Fits
pub mod ReadFronts
pub mod AllPairs
pub mod LongestText
