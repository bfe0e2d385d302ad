pub mod Answering
pub mod Lists
mod Following
