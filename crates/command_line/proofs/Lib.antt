pub mod Reading
pub mod Numbers
pub mod Forms
pub mod Orders
