pub mod Words
pub mod Forms
pub mod Clap
pub mod Views
