pub mod Table
pub mod Carried
pub mod Kept
pub mod Generated
pub mod Runs
