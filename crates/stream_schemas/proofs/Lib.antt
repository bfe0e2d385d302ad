pub mod Coming
pub mod Fitting
pub mod Streams
