pub mod NeverRefused
