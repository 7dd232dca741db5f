mod TreeLaws
pub mod DenominatorLaws
mod LoopLaws
mod LineLoops
pub mod EndAlike
mod NameLaws
pub mod KindLaws
mod GuardLaws
mod ScopeLaws
mod StateLaws
mod SectionLimits
mod StatementLaws
mod TextLaws
pub mod FirstLaws
mod MeaningLaws
mod LimitLaws
mod ControllerLaws
pub mod ResolveLaws
pub mod SameController
