pub mod Converting
pub mod Members
pub mod Rooms
pub mod Simplifying
pub mod Types
pub mod Values
