pub mod Inner
pub mod Entering
pub mod Passing
pub mod FrontTuples
pub mod Adding
pub mod Ending
