pub mod Expands
pub mod steps
