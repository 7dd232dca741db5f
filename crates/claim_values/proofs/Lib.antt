pub mod ClaimLists
pub mod MadeShape
pub mod Scales
pub mod Sums
pub mod ValueLaws
