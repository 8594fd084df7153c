-- What proofs of this crate and of those above share: the rules that close a return after tests on numbers.
-- Assumes nothing.
pub mod Rules
pub mod Writes
