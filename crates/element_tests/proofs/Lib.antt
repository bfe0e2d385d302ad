pub mod Numbers
pub mod Dividing
