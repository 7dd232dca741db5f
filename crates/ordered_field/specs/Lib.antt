pub mod Rational
pub mod Order
pub mod LowestTerms
pub mod Wideness
pub mod Delta
pub mod FieldLaws
