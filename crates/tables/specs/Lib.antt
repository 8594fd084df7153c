-- The rules' readers, over the one slice and the numbers that each of them reads; and the form of the scans of the check.
pub mod Readers
pub mod Rights
pub mod Places
pub mod Fit
pub mod Lent
