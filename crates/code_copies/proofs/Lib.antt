pub mod CodeWeights
