pub mod First
pub mod Weight
pub mod Weighed
pub mod Claim
pub mod Overflow
pub mod Scaled
pub mod Queries
