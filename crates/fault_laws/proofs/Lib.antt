pub mod Having
pub mod Running
pub mod RunFaults
