mod Arguments
mod Bits
mod Changed
mod Exact
pub mod Following
mod Indexes
mod Operands
mod Operating
mod Parts
mod PlaceSteps
mod Sizes
mod Standing
mod Unaries
mod Wrapping
