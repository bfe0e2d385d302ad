pub mod TypesGathered
pub mod BodyTypes
