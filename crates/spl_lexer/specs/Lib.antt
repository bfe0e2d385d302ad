pub mod Ahead
pub mod Answer
