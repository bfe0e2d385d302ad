pub mod GivesParts
pub mod GivesComposites
pub mod GivesClauses
