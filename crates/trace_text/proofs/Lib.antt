pub mod Parts
pub mod Exactness
