pub mod Subjects
pub mod Columns
