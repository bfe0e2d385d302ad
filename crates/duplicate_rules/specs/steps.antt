pub mod Earliest
pub mod Graphs
pub mod NamesBefore
pub mod Seen
pub mod Variables
