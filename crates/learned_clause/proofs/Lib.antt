pub mod ClosingLaws
pub mod EndLaws
pub mod ExampleLaws
pub mod MarkLaws
pub mod MemberLaws
pub mod PlaceLaws
pub mod ResolutionLaws
pub mod StepLaws
