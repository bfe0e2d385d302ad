pub mod Adding
pub mod Finding
pub mod Marked
pub mod Plain
pub mod Short
pub mod Steps
