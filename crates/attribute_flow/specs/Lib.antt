pub mod Chains
pub mod CopyLaws
pub mod steps
