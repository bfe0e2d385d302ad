pub mod Bodies
pub mod Standing
pub mod Order
pub mod Names
pub mod Laws
