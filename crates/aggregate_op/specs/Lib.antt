pub mod Arguments
pub mod Kept
pub mod Standing
pub mod steps
