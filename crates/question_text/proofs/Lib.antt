pub mod Columns
pub mod ExampleLimits
pub mod Laws
pub mod QuestionColumns
pub mod Readiness
pub mod Scales
mod ScaleLaws
pub mod SeenLaws
pub mod Sums
mod FoundLoop
mod TreeLaws
mod KindLaws
mod MixLaws
mod DenominatorLaws
mod LineLoop
mod MeaningLaws
mod LineAgreement
mod NameLaws
mod QuestionLimits
mod TextLaws
pub mod TellingLaws
mod WritingLaws
mod Respelling
mod CanonLaws
mod PrintLaws
