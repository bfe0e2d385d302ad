pub mod Answers
pub mod Changing
pub mod Fitting
pub mod Taking
pub mod steps
