pub mod Choices
pub mod Leads
pub mod Signatures
