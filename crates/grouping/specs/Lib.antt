-- The members of groups as parts of one list.
pub mod inner
