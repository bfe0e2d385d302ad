pub mod ChainParts
