pub mod Causes
mod FewTokens
pub mod OneAccepted
mod SomeAccepted
mod Stages
pub mod Records
pub mod Replaying
pub mod Requests
pub mod Telling
pub mod Fetching
pub mod Programs
pub mod Standing
mod SoFar
pub mod Showing
pub mod Operators
pub mod SinkLemmas
pub mod Running
pub mod Ordering
pub mod Carrying
pub mod Replays
pub mod PlainAnswers
pub mod Preparing
pub mod ReplayLaw
pub mod Answering
