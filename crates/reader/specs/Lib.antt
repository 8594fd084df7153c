-- The file as the reader goes through it, the laws that make that the rules' `file_of`, what its payloads are, its tokens, and what
-- the program prints by them.
pub mod Reading
pub mod Records
pub mod Parts
pub mod Tokens
pub mod Printed
