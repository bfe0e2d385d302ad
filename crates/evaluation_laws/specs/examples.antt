pub mod OneCall
pub mod OneHandler
pub mod TwoStatements
