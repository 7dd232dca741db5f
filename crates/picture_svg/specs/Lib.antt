pub mod Documents
pub mod Names
pub mod Panels
pub mod Shapes
