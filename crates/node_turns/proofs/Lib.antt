pub mod Changes
pub mod LinkEnds
pub mod Keeps
