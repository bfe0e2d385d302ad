pub mod Arguments
pub mod Options
pub mod Commands
pub mod Request
pub mod RequestLaws
pub mod steps
