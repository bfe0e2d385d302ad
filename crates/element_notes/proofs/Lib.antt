pub mod UnreadPorts
pub mod Counting
pub mod HowEnded
pub mod Recorded
pub mod Noted
pub mod StreamEnds
