pub mod Ascending
pub mod Maps
