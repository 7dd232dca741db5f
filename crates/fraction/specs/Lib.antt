pub mod Cross
pub mod Mixed
pub mod Reduction
pub mod Sums
pub mod Value
pub mod Width
