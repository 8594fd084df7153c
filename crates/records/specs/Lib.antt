-- Expected kinds over the actions' bytes.
pub mod Expected
