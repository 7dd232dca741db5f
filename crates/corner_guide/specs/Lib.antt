pub mod Models
pub mod Truths
