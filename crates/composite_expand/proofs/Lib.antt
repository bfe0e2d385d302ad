mod Begin
pub mod Comes
mod Keeping
mod Resuming
mod Steps
mod Way
mod Work
mod Firsts
