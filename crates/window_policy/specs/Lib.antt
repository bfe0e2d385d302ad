pub mod Answers
pub mod Standing
pub mod Parts
pub mod Deltas
pub mod Running
pub mod Sums
pub mod RunningStanding
pub mod steps
