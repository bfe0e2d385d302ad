pub mod Comings
pub mod Contents
pub mod Joining
pub mod PairEnvs
pub mod PairSteps
