pub mod ControllerTexts
pub mod AskingLaws
