pub mod Draws
pub mod Problems
pub mod Views
