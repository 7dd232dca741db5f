pub mod NormalForm
pub mod Reduced
pub mod Sums
