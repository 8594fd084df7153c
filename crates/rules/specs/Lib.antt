-- Document 01 as definitions, a file for each of its sections, in its order.
pub mod Basics
pub mod Tables
pub mod Verdict
pub mod Check
pub mod Driving
pub mod Answers
pub mod Trees
pub mod Plain
pub mod File
