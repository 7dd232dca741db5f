pub mod Spelling
pub mod Rules
pub mod Tables
pub mod Drafts
pub mod Journals
