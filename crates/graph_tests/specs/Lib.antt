pub mod Below
pub mod Copying
