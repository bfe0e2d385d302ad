pub mod Answered
pub mod Keeping
pub mod MovedFields
