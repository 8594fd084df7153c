-- The byte model of a run: the rules' machine, done by loads and stores on the bytes of the lent rooms.
pub mod Bytes
pub mod Model
