pub mod Fitting
pub mod steps
