pub mod TruthLaws
