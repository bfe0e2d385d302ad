pub mod Moments
pub mod Standing
pub mod Marks
