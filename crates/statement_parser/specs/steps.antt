pub mod GivesStatements
pub mod Parts
pub mod GivesTypes
