pub mod Attributes
pub mod ColumnSteps
pub mod Entries
pub mod Gathered
pub mod WrappedSums
