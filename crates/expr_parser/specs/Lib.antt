pub mod Rules
pub mod Lines
pub mod Taken
pub mod Parts
pub mod Gives
pub mod Parses
pub mod steps
