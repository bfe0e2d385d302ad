pub mod Places
pub mod Unaries
