pub mod Replying
pub mod Operators
pub mod Answering
pub mod CustomFits
