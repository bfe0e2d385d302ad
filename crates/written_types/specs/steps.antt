pub mod Definitions
pub mod Circles
pub mod TypeScopes
