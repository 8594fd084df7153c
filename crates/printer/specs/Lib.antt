-- What it is to write a text into a buffer, the lines' texts from numbers and bytes, and that those are the rules' lines.
pub mod Writing
pub mod Digits
pub mod Lines
pub mod TreeText
pub mod Page
pub mod Stored
pub mod Shown
pub mod ShownTree
pub mod Held
