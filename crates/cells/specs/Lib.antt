-- What a cell's bits say, at any width.
pub mod Cells
