pub mod Endings
pub mod Noting
pub mod EndLaws
