pub mod ColumnLaws
pub mod ProblemLaws
pub mod SameProblem
pub mod LightCerts
pub mod DecideLaws
pub mod JudgeLaws
pub mod RefusalLaws
