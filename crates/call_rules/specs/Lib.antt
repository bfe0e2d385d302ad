pub mod Operands
pub mod Calls
pub mod steps
