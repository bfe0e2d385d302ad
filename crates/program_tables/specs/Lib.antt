pub mod Names
pub mod Mentioned
pub mod SameComposites
pub mod steps
