pub mod Forms
pub mod Pieces
pub mod ExpressionLines
pub mod Lines
pub mod UnitLines
pub mod Relations
pub mod Ranges
pub mod Weighing
