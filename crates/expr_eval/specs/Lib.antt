pub mod Fitting
pub mod Moving
pub mod Running
pub mod steps
