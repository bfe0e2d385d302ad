pub mod Numbers
pub mod Fresh
