pub mod Causes
pub mod Verdicts
pub mod NoModel
pub mod Known
pub mod Tables
pub mod Desks
pub mod Answers
pub mod Examples
