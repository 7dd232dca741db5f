pub mod Tests
pub mod Limits
pub mod Names
pub mod Scopes
pub mod Denominators
pub mod Statements
pub mod Resolving
pub mod Resolved
