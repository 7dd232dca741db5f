pub mod MadeLists
