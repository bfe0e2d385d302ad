pub mod Grammar
pub mod Phrases
pub mod TypeGrammar
pub mod StatementGrammar
pub mod UnitGrammar
