pub mod CheckedGraphs
pub mod SomeOperators
pub mod TwoSinks
pub mod WindowExamples
pub mod RecordExamples
pub mod Reacting
pub mod SomeRegions
