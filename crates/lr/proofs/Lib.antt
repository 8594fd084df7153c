-- What of specs/ rests on the laws of passing tables, by the same names of files; and `Theorems`, the page that states what is shown.
pub mod Stack
pub mod Invariant
pub mod Impossible
pub mod Stands
pub mod Sound
pub mod Complete
pub mod NoMark
pub mod Recovered
pub mod Accounted
pub mod Theorems
