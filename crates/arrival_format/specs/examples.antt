pub mod TwoStreams
