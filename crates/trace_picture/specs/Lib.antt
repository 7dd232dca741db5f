pub mod Measures
pub mod Panels
pub mod Places
