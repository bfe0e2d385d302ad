pub mod Kinds
pub mod EvaluationKinds
pub mod OperatorKinds
