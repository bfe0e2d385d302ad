pub mod Plain
pub mod Failing
pub mod Memory
pub mod Shelves
pub mod PlainFiles
