-- Lots that no line turns away, whole calls, judged samples of the trade, and the transposed matrix.
pub mod AcceptedCalls
pub mod Calls
pub mod Cases
pub mod Transposed
