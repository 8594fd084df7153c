-- What every step keeps, and what a run by steps is.
pub mod Kept
pub mod Served
pub mod Running
