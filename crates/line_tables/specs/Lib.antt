pub mod Tables
pub mod Given
