pub mod Sites
pub mod Names
pub mod Bodies
