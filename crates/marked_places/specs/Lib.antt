pub mod Marked
pub mod Counts
