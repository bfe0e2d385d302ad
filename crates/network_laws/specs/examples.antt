pub mod PathNet
pub mod RegionNet
pub mod KeyedNet
pub mod CheckedPath
pub mod CheckedSums
