pub mod Inputs
pub mod Outputs
pub mod Works
pub mod Standing
pub mod New
pub mod Suiting
