pub mod Contexts
pub mod Readings
