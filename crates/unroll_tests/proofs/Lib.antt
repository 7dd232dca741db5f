pub mod ExamplePaths
pub mod ExampleShapes
