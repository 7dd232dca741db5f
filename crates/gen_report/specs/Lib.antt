pub mod Words
pub mod Files
pub mod Reports
pub mod Shown
