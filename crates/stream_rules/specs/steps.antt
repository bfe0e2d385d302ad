pub mod Among
pub mod Answers
pub mod Looked
pub mod Outside
pub mod Origins
