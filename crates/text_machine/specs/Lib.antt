pub mod Items
pub mod Lines
pub mod Texts
pub mod Scripts
pub mod Given
