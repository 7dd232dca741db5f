pub mod Put
pub mod Json
