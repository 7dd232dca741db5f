pub mod Problems
pub mod LightCerts
pub mod Deciding
pub mod Judging
