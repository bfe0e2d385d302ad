mod Steps
mod Loops
mod Exits
mod LiteralLaws
mod CallLaws
mod PlacesFound
mod WantedForms
pub mod FoundRows
