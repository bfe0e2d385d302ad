pub mod RegionLaw
pub mod ReplicaState
pub mod NumberLaws
pub mod OneItemLaws
pub mod RegionFronts
pub mod PlanFronts
pub mod RegionProper
pub mod examples
