pub mod Deltas
pub mod Parts
pub mod Windows
pub mod Marks
pub mod Places
pub mod Summing
pub mod SumsAt
