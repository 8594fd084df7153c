-- The words of a report, from an answer and four counts.
pub mod Report
