pub mod Totals
pub mod Grouping
pub mod Marking
