pub mod Bytes
pub mod ShortNumbers
pub mod Reading
pub mod Writing
