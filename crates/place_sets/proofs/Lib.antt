pub mod Widening
pub mod Fitting
