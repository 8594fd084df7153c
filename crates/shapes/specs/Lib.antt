-- The places of the tests 10 and 11, and the tests 12 and 13 at a production whose right side starts at a known place.
pub mod Sizes
pub mod Cells
pub mod Productions
