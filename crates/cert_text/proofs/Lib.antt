pub mod LineLaws
pub mod DraftLaws
pub mod FeedLaws
pub mod Numbers
pub mod TreeLaws
pub mod Exactness
pub mod PrintLaws
pub mod JournalLaws
