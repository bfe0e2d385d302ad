pub mod Circles
pub mod FoundStreams
pub mod Streams
pub mod steps
