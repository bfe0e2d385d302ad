pub mod Reading
pub mod Recording
pub mod Taking
pub mod Replaying
pub mod Table
pub mod Faults
pub mod Keeping
pub mod Running
