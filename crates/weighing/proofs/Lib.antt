pub mod Events
pub mod Claims
pub mod QueryLaws
pub mod AskedClaims
pub mod Scaling
