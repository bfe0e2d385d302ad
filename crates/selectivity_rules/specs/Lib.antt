pub mod ClassLaws
pub mod SubmitLaws
pub mod steps
