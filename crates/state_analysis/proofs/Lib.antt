pub mod Clauses
pub mod Keeping
