-- The bench examples of document 01, computed from the definitions of specs/.
pub mod TableA
pub mod Opened
pub mod Bench
