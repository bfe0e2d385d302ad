pub mod TwoRegions
