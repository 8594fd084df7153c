-- What the contracts of `words` cite (`Words`), and the laws of it that need no code (`Laws`).
-- Assumes nothing.
pub mod Words
pub mod Laws
