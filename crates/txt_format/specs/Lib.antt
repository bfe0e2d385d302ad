pub mod Escapes
pub mod TxtText
pub mod TxtSpelling
pub mod TxtLaws
pub mod steps
