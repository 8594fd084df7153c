-- Words in a row, as the code writes them.
pub mod Put
pub mod Lent
