pub mod Runs
pub mod RunOrders
pub mod RunLaws
pub mod steps
pub mod examples
