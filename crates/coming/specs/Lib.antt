-- What the contracts of `coming` cite: test 15 in the steps of its functions.
pub mod Coming
