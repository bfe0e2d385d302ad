pub mod Settings
pub mod Handling
pub mod steps
