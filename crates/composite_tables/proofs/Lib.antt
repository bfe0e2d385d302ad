mod Counting
pub mod Extending
mod Fitting
mod Following
mod Gathering
mod Naming
mod Portless
mod Taking
