pub mod Rules
pub mod Rows
pub mod Meeting
pub mod WordLaws
pub mod Ends
pub mod Verdicts
pub mod RequestLaws
pub mod FormLaws
