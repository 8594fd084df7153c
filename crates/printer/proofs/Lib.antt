-- The laws that several functions' goals are closed by.
pub mod Nothing
