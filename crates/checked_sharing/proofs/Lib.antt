pub mod Sending
pub mod Sharing
pub mod Crossing
