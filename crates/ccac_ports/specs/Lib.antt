pub mod Ports
pub mod MemFolder
pub mod MemSink
pub mod RealFolder
pub mod RealSink
