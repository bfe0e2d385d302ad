-- Words of contracts within the crate.
pub mod Signatures
