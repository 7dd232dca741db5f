pub mod HaltLaws
pub mod HadLaws
pub mod FetchLaws
pub mod LoopLaws
pub mod TextLaws
pub mod EndLaws
