pub mod Sending
pub mod Giving
pub mod Wanting
pub mod EachKind
