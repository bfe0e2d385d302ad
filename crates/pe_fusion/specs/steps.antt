pub mod Reading
pub mod Regions
pub mod Placing
pub mod Starting
pub mod Building
pub mod Ports
