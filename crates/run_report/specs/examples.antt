pub mod SomePlans
pub mod SomeCounts
