pub mod Tallies
pub mod Moving
pub mod Stepped
