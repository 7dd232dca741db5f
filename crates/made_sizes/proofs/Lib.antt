pub mod Measures
pub mod FlowMeasures
pub mod PathMeasures
pub mod QuestionMeasures
pub mod FormulaSizes
pub mod FromTexts
pub mod Converted
