pub mod OpeningLaws
pub mod ModelLaws
pub mod CountLaws
pub mod SolveLaws
pub mod CoefficientLaws
pub mod TestLaws
