pub mod NumberTexts
pub mod InputTexts
pub mod Lines
pub mod RecordTexts
pub mod SomeTexts
pub mod WholeRecords
pub mod Spelling
