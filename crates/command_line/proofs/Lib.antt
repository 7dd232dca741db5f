pub mod PutLaws
pub mod MadeLaws
pub mod RunLaws
