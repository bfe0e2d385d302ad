pub mod Members
pub mod Functions
pub mod Wanted
pub mod Takings
pub mod LiteralAnswers
pub mod steps
