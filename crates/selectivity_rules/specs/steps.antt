pub mod Counts
pub mod Intervals
