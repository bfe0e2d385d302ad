pub mod Kinds
pub mod Standing
pub mod steps
