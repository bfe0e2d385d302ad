pub mod Fits
pub mod Evaluations
mod Moves
