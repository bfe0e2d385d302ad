pub mod Operators
pub mod Programs
pub mod Logic
