pub mod Ends
pub mod Escapes
pub mod Found
pub mod Fronts
pub mod Longest
pub mod Reach
