pub mod CallNames
pub mod Kinds
