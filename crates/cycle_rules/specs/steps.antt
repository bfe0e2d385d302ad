pub mod Backs
pub mod Callers
pub mod Makers
pub mod Named
pub mod Taking
