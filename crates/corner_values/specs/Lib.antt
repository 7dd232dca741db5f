pub mod Epsilon
pub mod Scale
pub mod Values
pub mod Faults
