pub mod Capping
pub mod CountedClasses
pub mod CountLoops
pub mod IntervalForms
pub mod CausedItems
pub mod Counting
pub mod GroupCounts
