mod Lengths
mod BodyRows
mod Ending
mod SameKinds
mod StatementLeads
mod Submitting
mod Stopping
mod Signing
pub mod HandlersFound
mod PutBack
