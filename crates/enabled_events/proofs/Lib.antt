pub mod Nexts
pub mod Happening
pub mod Righting
