pub mod Replaying
pub mod Meaning
pub mod Example
pub mod FittedRuns
