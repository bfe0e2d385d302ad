pub mod Each
pub mod Weighs
pub mod Dealing
