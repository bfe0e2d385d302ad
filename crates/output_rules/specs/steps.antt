pub mod Collecting
pub mod Indexed
pub mod Marking
