mod Forms
mod TypeLines
mod ExpressionLines
mod PartLines
mod StatementLines
mod DefinitionLines
pub mod ToLines
pub mod UnitToLines
mod Weighing
mod Meanings
mod LineParts
pub mod FromLines
