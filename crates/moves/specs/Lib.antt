-- What the code's numbers and slices have to do with a call, and the bounds that a run keeps.
pub mod Serving
pub mod Bounds
