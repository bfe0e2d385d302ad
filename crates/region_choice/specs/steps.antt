pub mod Choosing
pub mod GraphChains
pub mod Counting
pub mod Ports
pub mod Keys
pub mod Growing
pub mod Choices
