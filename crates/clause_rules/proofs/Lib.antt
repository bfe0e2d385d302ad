pub mod Naming
pub mod Tables
pub mod Invocations
pub mod Streams
pub mod Graphs
mod LogicFound
