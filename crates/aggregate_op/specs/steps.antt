pub mod Evaluating
pub mod Firing
pub mod Giving
pub mod Arguments
pub mod Summing
