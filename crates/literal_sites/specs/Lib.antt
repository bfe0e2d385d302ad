pub mod Sites
pub mod steps
