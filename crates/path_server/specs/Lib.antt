pub mod Servers
pub mod Limits
pub mod Shapes
pub mod Claims
pub mod Scales
pub mod Rules
pub mod Places
pub mod RowClaims
