pub mod Fitting
pub mod Pairs
pub mod Sides
pub mod steps
