-- Laws of blocks, of their columns and of words drawn.
-- Laws of power steps.
-- Laws of the rounds.
pub mod Columns
pub mod DrawnWords
pub mod PowerFuel
pub mod Converging
pub mod RoundFuel
