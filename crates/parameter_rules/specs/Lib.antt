pub mod Taking
pub mod steps
