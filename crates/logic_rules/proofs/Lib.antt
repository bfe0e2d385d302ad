pub mod PlainLaws
pub mod StateValueLaws
pub mod StateTyping
pub mod ByPorts
