pub mod Made
pub mod Putting
pub mod examples
