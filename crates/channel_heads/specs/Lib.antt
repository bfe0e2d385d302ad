pub mod Held
pub mod MergeLaws
pub mod FrontLaws
