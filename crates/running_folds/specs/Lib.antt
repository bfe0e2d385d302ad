pub mod Folds
pub mod Tallies
pub mod Moving
pub mod steps
