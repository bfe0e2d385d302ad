pub mod Notes
pub mod Calls
pub mod Taking
pub mod Placed
pub mod Meets
pub mod Made
pub mod Idling
