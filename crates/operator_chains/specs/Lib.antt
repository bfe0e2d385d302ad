pub mod Hows
pub mod Standing
pub mod Places
pub mod steps
