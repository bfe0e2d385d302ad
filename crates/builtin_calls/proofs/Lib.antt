pub mod Opposites
pub mod Shapes
pub mod Chosen
