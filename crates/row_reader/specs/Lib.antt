pub mod Came
pub mod Columns
pub mod Reading
pub mod steps
