pub mod Giving
pub mod Matching
pub mod Standing
