pub mod Columns
pub mod Firsts
pub mod Orders
pub mod Queues
pub mod AllRows
pub mod Made
pub mod Steps
pub mod Sums
