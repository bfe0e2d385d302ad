pub mod Columns
pub mod Extremes
pub mod Seen
pub mod steps
