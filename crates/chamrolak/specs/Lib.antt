-- What each call returns, and what it leaves in every lent room.
pub mod Exit
pub mod Reached
pub mod Demands
