pub mod Outcomes
pub mod Calls
pub mod Codes
pub mod Statements
pub mod Functions
pub mod Bodies
pub mod Reacting
