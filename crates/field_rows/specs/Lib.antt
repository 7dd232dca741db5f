pub mod Sums
pub mod Rows
pub mod Farkas
pub mod Operations
pub mod Merging
pub mod Zeros
