pub mod Texts
pub mod PlanTexts
pub mod PlanTextLaws
pub mod CountTexts
pub mod examples
