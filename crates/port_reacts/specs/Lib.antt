pub mod PortReplies
pub mod Bodies
pub mod Evaluation
