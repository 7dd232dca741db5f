pub mod Tables
pub mod Terms
pub mod Operations
pub mod Exchange
pub mod Opening
pub mod Layout
