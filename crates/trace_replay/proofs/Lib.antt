pub mod ExampleLimits
pub mod ReplayOrder
pub mod PlaceLaws
pub mod ReplayLaws
pub mod SeenLaws
