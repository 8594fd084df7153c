-- What the contracts of `following` cite: the places of test 17, and what stands behind a dot.
pub mod Following
