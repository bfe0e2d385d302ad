pub mod Splitting
pub mod KeyPremises
