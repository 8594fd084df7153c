-- The byte model of a run refines the machine of the rules.
pub mod Put
pub mod Fits
pub mod Stack
pub mod Tokens
pub mod Holds
pub mod Arrive
pub mod Push
pub mod Reduce
pub mod Look
pub mod Simulate
pub mod Mark
pub mod Step
pub mod Run
pub mod Read
pub mod Theorem
