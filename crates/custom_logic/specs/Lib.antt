pub mod Idle
pub mod Standing
pub mod steps
