pub mod CompleteParts
pub mod Readings
pub mod TypeReadings
pub mod StatementReadings
pub mod Sequences
