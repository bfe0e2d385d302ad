pub mod Invocations
pub mod Waiting
pub mod Walking
pub mod Walks
pub mod Answers
