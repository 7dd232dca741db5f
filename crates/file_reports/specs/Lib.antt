pub mod Sources
pub mod Reports
pub mod Shown
pub mod Fetched
pub mod Had
pub mod Halted
pub mod Ended
