pub mod CoprimeLaws
pub mod Reduction
pub mod Scaling
pub mod Uniqueness
