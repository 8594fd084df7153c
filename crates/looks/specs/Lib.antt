-- What a look decides, as an act of the byte model, and the model's cases on a production number by a test.
pub mod Deciding
pub mod Cases
