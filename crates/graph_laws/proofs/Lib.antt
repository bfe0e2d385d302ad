pub mod ExpansionAnswers
pub mod Flattening
pub mod Inlining
pub mod OneFlat
pub mod Nesting
pub mod KeptInvocations
pub mod Ordering
