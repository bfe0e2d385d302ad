pub mod Deltas
pub mod Parts
pub mod Sums
