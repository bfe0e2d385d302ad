pub mod Ending
pub mod Fresh
