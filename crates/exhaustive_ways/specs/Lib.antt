-- Every way (section 6 of document 01): the ways, their number M, and the walk as the code holds it.
-- Demand 3, for any list.
pub mod Ways
pub mod Every
pub mod Level
pub mod inner
