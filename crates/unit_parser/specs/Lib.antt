pub mod Parses
pub mod steps
