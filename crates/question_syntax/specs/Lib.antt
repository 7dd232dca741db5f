pub mod Sections
pub mod Grammar
pub mod Reading
pub mod Refused
pub mod Printed
pub mod Limits
