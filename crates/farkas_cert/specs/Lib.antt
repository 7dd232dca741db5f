pub mod Literals
pub mod Trees
