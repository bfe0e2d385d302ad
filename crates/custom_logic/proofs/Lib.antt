pub mod Fits
pub mod Standing
pub mod Running
