pub mod Openings
pub mod Solving
