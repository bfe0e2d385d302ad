pub mod Mentioned
pub mod Heads
pub mod Given
pub mod Settling
pub mod Tables
pub mod Weights
