pub mod Taking
pub mod TakingCodes
pub mod TakingStatements
pub mod TakenTurns
pub mod AgreeingSlots
pub mod PlainCodes
pub mod FirstValues
pub mod FittingOutcomes
pub mod Handling
pub mod ImmutableVariables
mod OneCall
mod OneHandler
pub mod Extending
pub mod NamesInCodes
pub mod NamedSlots
pub mod LikeCodes
pub mod LikeStatements
pub mod MoreTurns
mod KeptInputs
mod OtherVariables
mod SameInputs
mod SubmitsBefore
mod TwoStatements
