-- From a scan's place to the verdict.
pub mod Chain
