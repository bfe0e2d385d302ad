pub mod Sinks
pub mod steps
