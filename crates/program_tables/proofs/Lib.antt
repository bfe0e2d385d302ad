mod Adding
mod Growing
mod MentionLaws
mod Places
pub mod Snoc
mod StatementLaws
