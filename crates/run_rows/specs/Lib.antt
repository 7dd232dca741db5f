pub mod Columns
pub mod Fitting
pub mod Limits
pub mod Runs
