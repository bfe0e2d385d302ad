pub mod Numbered
pub mod steps
