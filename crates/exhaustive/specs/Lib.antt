-- What inner functions of the exhaustive test are asked.
pub mod inner
