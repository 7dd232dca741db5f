pub mod Examples
pub mod Learning
pub mod LightTrees
pub mod Resolutions
pub mod Trails
pub mod Resolvents
