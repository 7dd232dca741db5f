pub mod PieceLaws
pub mod NumberLaws
pub mod SpellingLaws
pub mod ReadingLaws
pub mod StepLaws
