pub mod Adding
pub mod ItemsMore
pub mod OneSplit
pub mod Replies
