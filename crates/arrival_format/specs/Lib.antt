pub mod ArrivalTexts
pub mod FormatLaws
pub mod steps
pub mod examples
