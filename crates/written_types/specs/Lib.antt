pub mod Stepping
pub mod Circles
pub mod TypeScopes
pub mod steps
