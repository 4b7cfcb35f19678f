-- "What a turned-away lot returns" of document 01, on this paper's numbers: an operation's outcome, the table, what it leaves in lent slices; and the
-- numbers of the code's enum.
pub mod Outcome
pub mod Refusals
pub mod Slices
pub mod Numbers
